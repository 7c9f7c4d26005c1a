-- What the reader tells of bytes.
use Rattle.std.proofs.Common.{◌≡◌, ℕ, ◌+◌, ◌<◌, ◌≤◌, List, length, take, Result, Ok, Err, subst}
use Rattle.pc_model.specs.declared.schema.Schema.{Schema}
use Rattle.pc_model.specs.WellFormed.{IsWellFormed}
use Rattle.pc_proof.specs.declared.document.Document.{Document}
use Rattle.pc_document_format.specs.Lines.{feeds_in}
use Rattle.pc_document_format.proofs.ByPlace.{refused_at, whole_at, more_at}
use Rattle.pc_document.specs.declared.document.NoDocument.{NoDocument}
use Rattle.pc_document.specs.declared.document.NoDocument.TheVariants as refusals
use Rattle.pc_document.specs.Places.{IsLineStart, lines_at}
use Rattle.pc_document.specs.Reading.{read_document, document_of}
use Rattle.pc_document.specs.Told.{Gives, Told, ToldAs}
use Rattle.pc_document_lines.proofs.AllLines.{all_lines}
use Rattle.pc_document.proofs.DocumentFormat.{reading_told}

pub ends_refused : (schema : Schema) (bytes : List ℕ) (at : ℕ) → read_document schema (lines_at bytes 0) ≡ Err (lines_at bytes at) → document_of schema bytes ≡ Err (feeds_in (take at bytes) + 1)
ends_refused schema bytes at found = refused_at (read_document schema) bytes at found

pub ends_whole : (schema : Schema) (bytes : List ℕ) (at : ℕ) (doc : Document) → IsLineStart bytes at → read_document schema (lines_at bytes 0) ≡ Ok (doc, lines_at bytes at) → length bytes ≤ at → document_of schema bytes ≡ Ok doc
ends_whole schema bytes at doc start found late = whole_at (read_document schema) bytes at doc found start.rest late

pub ends_early : (schema : Schema) (bytes : List ℕ) (at : ℕ) (doc : Document) → IsLineStart bytes at → read_document schema (lines_at bytes 0) ≡ Ok (doc, lines_at bytes at) → at < length bytes → document_of schema bytes ≡ Err (feeds_in (take at bytes) + 1)
ends_early schema bytes at doc start found early = more_at (read_document schema) bytes at doc found start.rest early

pub ruleset ends = (ends_refused, ends_whole, ends_early)

pub told : (schema : Schema) (bytes : List ℕ) (result : Result Document NoDocument) → IsWellFormed schema → Gives result (document_of schema bytes) → ToldAs schema bytes result
told schema bytes (Ok doc) well is = subst (Told schema bytes) is (reading_told schema bytes (all_lines schema well))
told schema bytes (Err (refusals.Fault line)) well is = subst (Told schema bytes) is (reading_told schema bytes (all_lines schema well))
told schema bytes (Err refusals.Memory) well is = tt
