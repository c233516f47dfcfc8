-- Lemmas about pieces of a text that are written into a buffer one after another.
use Rattle.std.proofs.Common.{rules, ◌≡◌, ℕ, ◌+◌, ◌-◌, ◌<◌, ◌≤◌, min, List, [], ◌++◌, length, take, drop, sym, ap}
use Rattle.std.proofs.Common.{subst, ◌∙◌, arith, append_assoc, append-nil}
use Rattle.std.proofs.Math.Seq.{take-nil, take-append-add, take-append_seam, drop-append_seam}
use Rattle.std.proofs.lemmas.List.{take_all, drop_all, take-append-le, length-append, length-take, length-drop}
use Rattle.std.proofs.lemmas.List.{drop-drop}
use Rattle.rs_ffi.specs.Texts.{text_over, WritesText}

-- If nothing was written, the buffer is unchanged.
pub over-nothing : (room : List ℕ) → text_over [] room ≡ room
over-nothing room = ap (λ l. l ++ room) (take-nil (length room))

-- A piece that begins after the end of the buffer changes nothing.
pub over-past : (text piece old : List ℕ) → length old ≤ length text
    → text_over (text ++ piece) old ≡ text_over text old
over-past text piece old past = search (rules, take-append-le, drop_all, length-append)

-- A piece that begins inside the buffer is written as far as it fits.
module _ (text piece old room : List ℕ) (at fits : ℕ) (sized : length text ≡ at) (is : room ≡ text_over text old)
    (inside : at < length old)
    (fit : fits ≡ min (length piece) (length old - at)) where
  begins : room ≡ text ++ drop at old
  begins = search (rules, take_all)

  front : take at room ≡ text
  front = search (rules, begins, take-append_seam)

  back : drop fits (drop at room) ≡ drop (at + fits) old
  back = search (rules, begins, drop-append_seam, drop-drop)

  middle : take fits piece ++ drop (at + fits) old ≡ take (length old - at) piece ++ drop (at + length piece) old
  middle = search (rules, take_all, drop_all)

  pub over-inside : take at room ++ (take fits piece ++ drop fits (drop at room)) ≡ text_over (text ++ piece) old
  over-inside =
      ap (λ l. l ++ (take fits piece ++ drop fits (drop at room))) front
      ∙ ap (λ l. text ++ (take fits piece ++ l)) back ∙ ap (λ l. text ++ l) middle
      ∙ sym (append_assoc text (take (length old - at) piece) (drop (at + length piece) old))
      ∙ ap (λ l. l ++ drop (at + length piece) old)
      (sym (take-append-add text piece (length old - at))
      ∙ ap (λ n. take n (text ++ piece)) (omega (arith, sized, inside)))
      ∙ ap (λ n. take (length old) (text ++ piece) ++ drop n old)
      (let long = length-append text piece in omega (arith, sized, long))

-- A text followed by a piece is as long as both together.
pub longer : (text piece : List ℕ) {at end : ℕ} → length text ≡ at → end ≡ at + length piece
    → length (text ++ piece) ≡ end
longer text piece sized is = length-append text piece ∙ ap (λ n. n + length piece) sized ∙ sym is

-- Empty words at the end of a text change nothing.
pub ended : (text old : List ℕ) {new : List ℕ} {returned : ℕ} → WritesText (text ++ []) old new returned
    → WritesText text old new returned
ended text old {new = new} {returned = returned} writes =
    subst (λ whole. WritesText whole old new returned) (append-nil text) writes

-- If the text of a value is written with empty words at its end, the text of an equal value is written.
pub ended-at : {I : Type 0} (text : I → List ℕ) (old : List ℕ) {given known : I} {new : List ℕ} {returned : ℕ}
    → given ≡ known → WritesText (text known ++ []) old new returned → WritesText (text given) old new returned
ended-at text old {known = known} {new = new} {returned = returned} is writes =
    subst (λ i. WritesText (text i) old new returned) (sym is) (ended (text known) old writes)

-- Writing a text into a buffer does not change the length of the buffer.
pub length-over : (text old : List ℕ) → length (text_over text old) ≡ length old
length-over text old = search (rules, length-take, length-drop, length-append)
