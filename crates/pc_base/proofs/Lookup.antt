-- A name's file, entry by entry.
use Rattle.std.proofs.Common.{◌≡◌, ℕ, ◌+◌, ◌<◌, List, length, drop, get_or, cond, Some, add-one}
use Rattle.std.proofs.Math.Seq.{drop-cons}
use Rattle.std.specs.Str.{bytes_eq}
use Rattle.pc_base.specs.Files.{Files, file_of}

-- what is left from an entry on decides by that entry, else by what is left after it
pub rest_decides : (files : Files) (i : ℕ) (d : List ℕ × List ℕ) (name : List ℕ) → i < length files →
    file_of (drop i files) name ≡ cond (bytes_eq (get_or files i d).0 name) (Some (get_or files i d).1) (file_of (drop (i + 1) files) name)
rest_decides files i d name below = rw (add-one, drop-cons files i d)
