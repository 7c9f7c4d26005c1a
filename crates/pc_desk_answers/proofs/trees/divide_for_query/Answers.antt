use Rattle.pc_desk_answers.proofs.trees.divide_for_query.Goals as goal

pub returns-in_err-divide_for-clause-still : goal.returns-in_err-divide_for-clause-still
returns-in_err-divide_for-clause-still c = λ blocks divided. record { constrained = c.divide_for.ensures.still blocks divided.constrained; whole = divided.whole }

pub returns-clause-still : goal.returns-clause-still
returns-clause-still c = λ blocks divided. record { constrained = c.in_ok-divide_for.ensures.still blocks divided.constrained; whole = c.divide_for-2.ensures.still blocks divided.whole }
