use Rattle.std.proofs.Common.{◌≡◌, ℕ, map, All, Bor, List}
use Rattle.pc_model.specs.Accepted.{IsQuery}
use Rattle.pc_files.specs.Outcome.{queries_of}
use Rattle.pc_files.proofs.Asked.{read_from}
use Rattle.pc_files.proofs.reading.read_queries.Given as goal

abbrev pub invariant-loop-place : goal.invariant-loop-place
invariant-loop-place l = record {
  read : read_from l.schema (map (λ (text : Bor (List ℕ)). text.now) l.texts) l.place l.queries ≡ queries_of l.schema (map (λ (text : Bor (List ℕ)). text.now) l.texts);
  asked : All (IsQuery l.schema) l.queries;
}
