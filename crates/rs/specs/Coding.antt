-- The lines of a command, and the engine that computes them.
use Rattle.std.specs.Prelude.{◌≡◌, ℕ, List, ◌⊎◌, Some, Result, Ok, Err}
use Rattle.reed_solomon_simd.specs.declared.Error.{Error}
use Rattle.reed_solomon_simd.specs.declared.Error.TheVariants.{OutOfMemory}
use Rattle.reed_solomon_simd.specs.declared.engine.EngineKind.{EngineKind}
use Rattle.rs.specs.declared.coding.Lines.{Lines}
use Rattle.rs.specs.CommandLine.{Request, request_of}
use Rattle.rs.specs.Printed.{IsAnswered, concatenation}

-- a result is the lines or the error of the request, or `OutOfMemory`
abbrev pub AnswersWith : Request → Result Lines Error → Type 0
AnswersWith request (Ok lines) = IsAnswered request (Ok (concatenation lines.texts))
AnswersWith request (Err e) = IsAnswered request (Err e) ⊎ (e ≡ OutOfMemory)

-- the words are a valid command line, and this is the engine that they name
abbrev pub CodesAsAsked : List (List ℕ) → EngineKind → Type 0
CodesAsAsked words engine = (request : Request) × (request_of words ≡ Some request) × (engine ≡ request.engine)
