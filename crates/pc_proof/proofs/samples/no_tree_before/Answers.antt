use Rattle.std.proofs.Common.{inl, inr, refl}
use Rattle.pc_model.specs.Membership.{holds}
use Rattle.pc_proof.proofs.samples.no_tree_before.Goals as goal

pub returns-clause-broken : goal.returns-clause-broken
unfolding holds
returns-clause-broken c = inr (refl, inl (λ there. there, refl, refl))
