use Rattle.pc_base.proofs.Logged.{chain_is_logged}
use Rattle.pc_base.proofs.log_shelf.loads_are_logged.Goals as goal

pub returns : goal.returns
returns g c = record { logged = λ old new loads did had. chain_is_logged (λ shelf. shelf.log) old new loads did had }
