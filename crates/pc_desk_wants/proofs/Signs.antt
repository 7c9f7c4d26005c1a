-- A token alone.
use Rattle.std.proofs.lemmas.List.{append-nil}

pub ruleset alone = (append-nil)
