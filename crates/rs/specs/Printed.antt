-- The lines that the program prints.
use Rattle.std.specs.Prelude.{◌≡◌, ℕ, List, [], ◌∷◌, ◌++◌, ◌⊎◌, flat_map, Some, None, Result, Ok, Err}
use Rattle.std.specs.Fmt.{decimal}
use Rattle.std.specs.String.{string_bytes}
use Rattle.std.specs.declared.string.String.{String}
use Rattle.std.specs.declared.vec.Vec.{Vec}
use Rattle.reed_solomon_simd.specs.declared.Error.{Error}
use Rattle.reed_solomon_simd.specs.declared.Error.TheVariants.{OutOfMemory}
use Rattle.reed_solomon_simd.specs.Column.{Shard}
use Rattle.reed_solomon_simd.specs.Given.{Shards, Lists}
use Rattle.reed_solomon_simd.specs.OneCall.{Items, OneEncodeAnswers, OneDecodeAnswers}
use Rattle.rs.specs.declared.fault.Fault.{Fault}
use Rattle.rs.specs.declared.fault.Fault.TheVariants.{Usage, Refused}
use Rattle.rs.specs.Hex.{hex_of}
use Rattle.rs.specs.CommandLine.{GivenItems, Task, Coded, Restored, Request, request_of}

-- the line of a shard: its bytes as HEX, and a line end
abbrev pub line_of : Shard → List ℕ
line_of shard = hex_of shard ++ 10 ∷ []

-- a line for each shard
abbrev pub lines_of : List Shard → List ℕ
lines_of shards = flat_map line_of shards

-- the line of a shard with its index: the index in decimal digits, a blank, the bytes as HEX, and a line end
abbrev pub indexed_line_of : ℕ × Shard → List ℕ
indexed_line_of item = decimal item.0 ++ 32 ∷ line_of item.1

-- a line for each shard with its index
abbrev pub indexed_lines_of : Items → List ℕ
indexed_lines_of items = flat_map indexed_line_of items

-- a text has a line for each shard of a map, in order of index
abbrev pub ListsShards : Shards → List ℕ → Type 0
ListsShards shards text = (items : Items) × Lists shards items × (text ≡ indexed_lines_of items)

-- the lines of the recovery shards that one-call `encode` returns, or its error
abbrev pub CodesLines : ℕ → ℕ → List Shard → Result (List ℕ) Error → Type 0
CodesLines k r shards (Ok text) =
    (recovery : List Shard) × OneEncodeAnswers k r shards (Ok recovery) × (text ≡ lines_of recovery)
CodesLines k r shards (Err e) = OneEncodeAnswers k r shards (Err e)

-- the lines of the originals that one-call `decode` returns, or its error
abbrev pub RestoresLines : ℕ → ℕ → GivenItems → Result (List ℕ) Error → Type 0
RestoresLines k r given (Ok text) =
    (restored : Shards) × OneDecodeAnswers k r given.originals given.recovery (Ok restored) × ListsShards restored text
RestoresLines k r given (Err e) = OneDecodeAnswers k r given.originals given.recovery (Err e)

-- the result of a task for these counts: a text or an error
abbrev pub Answers : ℕ → ℕ → Task → Result (List ℕ) Error → Type 0
Answers k r (Coded shards) answer = CodesLines k r shards answer
Answers k r (Restored given) answer = RestoresLines k r given answer

-- the result of a request
abbrev pub IsAnswered : Request → Result (List ℕ) Error → Type 0
IsAnswered request answer = Answers request.original_count request.recovery_count request.task answer

-- a text consists of the lines that the program prints for these words
abbrev pub Prints : List (List ℕ) → List ℕ → Type 0
Prints words text = (request : Request) × (request_of words ≡ Some request) × IsAnswered request (Ok text)

-- an error is the one for these words: the error of the one-call function for their request, or `OutOfMemory`
abbrev pub Refuses : List (List ℕ) → Error → Type 0
Refuses words e = ((request : Request) × (request_of words ≡ Some request) × IsAnswered request (Err e))
    ⊎ (e ≡ OutOfMemory)

-- the concatenation of texts
abbrev pub concatenation : {Y Z : Type 0} → Vec (String Y) Z → List ℕ
concatenation texts = flat_map string_bytes texts.items

-- a result has the property P, or it is the error `OutOfMemory`
abbrev pub OrLacksMemory : {Y Z : Type 0} → (Result (List ℕ) Error → Type 0) → Result (Vec (String Y) Z) Error → Type 0
OrLacksMemory P (Ok texts) = P (Ok (concatenation texts))
OrLacksMemory P (Err e) = P (Err e) ⊎ (e ≡ OutOfMemory)

-- a fault is the reason why the program prints no lines for these words: they are not a valid command line, or their
-- request fails
abbrev pub HasFault : List (List ℕ) → Fault → Type 0
HasFault words Usage = request_of words ≡ None
HasFault words (Refused e) = Refuses words e
