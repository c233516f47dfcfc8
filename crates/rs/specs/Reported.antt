-- The message that is printed instead of lines.
use Rattle.std.specs.Prelude.{◌≡◌, ◌<◌, ℕ, List, [], ◌∷◌, ◌++◌, ◌⊎◌, length, take, codes, Option, true}
use Rattle.std.specs.Io.KnownBytes.{Appends}
use Rattle.reed_solomon_simd.specs.declared.Error.TheVariants.{OutOfMemory}
use Rattle.reed_solomon_simd.specs.Texts.{text_of}
use Rattle.rs.specs.declared.stream.Stream.{Stream}
use Rattle.rs.specs.declared.fault.Fault.{Fault}
use Rattle.rs.specs.declared.fault.Fault.TheVariants.{Usage, Refused}

-- the message of a fault: `usage` or the text of the error, and a line end
abbrev pub fault_message : Fault → List ℕ
fault_message Usage = codes "usage" ++ 10 ∷ []
fault_message (Refused e) = text_of e ++ 10 ∷ []

-- the exit status for a fault
abbrev pub status_of : Fault → ℕ
status_of Usage = 2
status_of (Refused e) = 1

-- the fault that the program reports is the fault itself, or `OutOfMemory` instead of an error
abbrev pub IsReportedAs : Fault → Fault → Type 0
IsReportedAs Usage reported = reported ≡ Usage
IsReportedAs (Refused e) reported = (reported ≡ Refused e) ⊎ (reported ≡ Refused OutOfMemory)

-- only a first part of a text is appended to the bytes that a writer holds
abbrev pub CutShort : Option (List ℕ) → Option (List ℕ) → List ℕ → Type 0
CutShort old new text = (n : ℕ) × (n < length text) × Appends old new (take n text)

-- a write to a stream has failed, and only a first part of a text was written to it
abbrev pub IsCutShort : {W : Type 0} → (W → Option (List ℕ)) → Stream W → Stream W → List ℕ → Type 0
IsCutShort contents old new text =
    (new.has_failed ≡ true) × CutShort (contents old.writer) (contents new.writer) text

-- a text was written to a stream: the whole text, or, if a write failed, a first part of it
abbrev pub Writes : {W : Type 0} → (W → Option (List ℕ)) → Stream W → Stream W → List ℕ → Type 0
Writes contents old new text =
    Appends (contents old.writer) (contents new.writer) text ⊎ IsCutShort contents old new text
