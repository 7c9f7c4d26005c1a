use Rattle.std.proofs.Common.{inr, refl}
use Rattle.pc_base.specs.declared.outside.Loaded.TheVariants as loads
use Rattle.pc_files.proofs.Chains.{one_load}
use Rattle.pc_files.proofs.Files.{gave_long, gave_whole}
use Rattle.pc_files.proofs.loading.load_bytes.Goals as goal

pub returns-in-Whole : goal.returns-in-Whole
returns-in-Whole g c =
    let load = c.in-Whole.ensures.loads in
    let short = rw c.limit_of.ensures at load.gives.0 in
    rw c.from_vec.ensures (record {
      agrees = gave_whole c.args.file (g.F.Shelf.told c.args.files.now).files c.args.name.now c.load.new.into.items short load.gives.1;
      loads = one_load g.F.Shelf.leads c.args.files.now c.load.new.self c.args.name.now loads.Whole c.in-Whole.ensures.leads;
      one_load = load.one_load;
    })

pub returns-in-Long : goal.returns-in-Long
returns-in-Long g c =
    let load = c.in-Long.ensures.loads in
    let long = rw c.limit_of.ensures at load.gives.1 in
    rw c.too_long.ensures (record {
      agrees = gave_long c.args.file (g.F.Shelf.told c.args.files.now).files c.args.name.now c.load.new.into.items long;
      loads = (refl, inr (one_load g.F.Shelf.leads c.args.files.now c.load.new.self c.args.name.now loads.Long c.in-Long.ensures.leads));
      one_load = load.one_load;
    })
