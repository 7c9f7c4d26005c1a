use Rattle.pc_agg.proofs.judged.settle_found.Goals as goal

pub returns-clause-relation : goal.returns-clause-relation
returns-clause-relation c = rw c.as_slice.ensures at c.in_ok-relation.ensures

pub returns-clause-lack : goal.returns-clause-lack
returns-clause-lack c = rw c.as_slice-2.ensures at c.in_ok-lack.ensures
