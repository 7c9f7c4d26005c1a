use Rattle.std.proofs.lemmas.Slice.Zip.{AllZip-long}
use Rattle.std.proofs.Common.{length, sym, ap, ◌∙◌}
use Rattle.pc_agg.proofs.judged.always_by.Goals as goal

pub relation_from-requires : goal.relation_from-requires
relation_from-requires c = record {
  sized = λ k d inside. ap length c.as_slice.ensures ∙ AllZip-long _ c.args.cells.now.cells c.in_ok-picks.picks c.in_ok-picks.ensures ∙ sym (c.requires.sized k d inside);
}
