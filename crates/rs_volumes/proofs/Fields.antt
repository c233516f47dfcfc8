-- A field that is read is the field that was written, and what was written is read again.
use Rattle.std.proofs.Common.{rules, ◌≡◌, ℕ, ◌+◌, ◌-◌, ◌^◌, ◌<◌, ◌≤◌, Bool, true, false, cond, eqb, ltb, List, ◌++◌}
use Rattle.std.proofs.Common.{length}
use Rattle.std.proofs.Common.{get_or, take, drop, Result, Ok, Err, refl, sym, ap, subst, ◌∙◌, append_assoc, arith}
use Rattle.std.specs.Int.{Width, w16, w32, w64, byte_len, from_le_bytes, to_le_bytes}
use Rattle.std.proofs.lemmas.Bool.{ltb-false, le-ltb, eqb-true, eq-eqb}
use Rattle.std.proofs.lemmas.List.{take_at, drop_at, take-append-drop, length-append, length-take, get_or-drop}
use Rattle.std.proofs.lemmas.List.{get_or-take, get_or_past, length-drop}
use Rattle.std.proofs.lemmas.Slice.Eq.{bytes_eq-Decides}
use Rattle.std.proofs.lemmas.Nat.{le_bytes_2, le_bytes_4, le_bytes_8}
use Rattle.rs_volumes.specs.declared.fault.Fault.{Fault}
use Rattle.rs_volumes.specs.declared.fault.Fault.TheVariants.{Short, Magic}
use Rattle.rs_volumes.specs.Description.{name_spelling}
use Rattle.rs_volumes.specs.Reading.{◌>>=◌, number_at, fixed_at, taken_at, name_at, magic_at}

abbrev pub IsBytes : List ℕ → Type 0
IsBytes bytes = (i : ℕ) → get_or bytes i 0 < 256

pub IsBytes-drop : (n : ℕ) (bytes : List ℕ) → IsBytes bytes → IsBytes (drop n bytes)
IsBytes-drop n bytes h i = rw get_or-drop (h (n + i))

pub IsBytes-take : (n : ℕ) (bytes : List ℕ) → IsBytes bytes → IsBytes (take n bytes)
IsBytes-take n bytes h i = search (rules, get_or-take, get_or_past, length-take)

-- If two steps succeed, the first step returned a value, and the second one succeeded with this value.
pub bind_ok : {A B : Type 0} {r : Result A Fault} {f : A → Result B Fault} {y : B} → (r >>= f) ≡ Ok y → (x : A)
    × (r ≡ Ok x) × (f x ≡ Ok y)
bind_ok {r = Ok x} e = (x, refl, e)
bind_ok {r = Err d} e = absurd cc

-- If a step fails whenever a test is true, and the step succeeds, the test is false.
pub guard_ok : {A : Type 0} {b : Bool} (d : Fault) {x : Result A Fault} {y : A} → cond b (Err d) x ≡ Ok y → (b ≡ false)
    × (x ≡ Ok y)
guard_ok {b = true} d e = absurd cc
guard_ok {b = false} d e = (refl, e)

-- If a step fails whenever a test is false, and the step succeeds, the test is true.
pub guard_passed : {A : Type 0} {b : Bool} (d : Fault) {x y : A} → cond b (Ok x) (Err d) ≡ Ok y → (b ≡ true) × (x ≡ y)
guard_passed {b = true} d e = (refl, cc)
guard_passed {b = false} d e = absurd cc

abbrev done : {A : Type 0} → A → Result A Fault
done x = Ok x

-- Two results that are equal and that did not fail have the same value.
pub ok_is : {A : Type 0} {x y : A} → done x ≡ done y → x ≡ y
ok_is e = cc

-- what a reader took from the front
pub record Takes (bytes text rest : List ℕ) : Type 0 where
  pub parts : bytes ≡ text ++ rest
  pub rest_fits : IsBytes rest

-- The text that was taken from the front of bytes consists of bytes.
pub taken_fits : {bytes text rest : List ℕ} → IsBytes bytes → Takes bytes text rest → IsBytes text
taken_fits {bytes = bytes} {text = text} {rest = rest} fits t =
    let front : take (length text) bytes ≡ text =
    ap (take (length text)) t.parts ∙ take_at text rest (length text) refl in
    subst IsBytes front (IsBytes-take (length text) bytes fits)

-- What two readers took, one after the other, is what both took together.
pub Takes-then : {a x b y c : List ℕ} → Takes a x b → Takes b y c → Takes a (x ++ y) c
Takes-then {x = x} {y = y} {c = c} p q =
    record { parts = p.parts ∙ ap (λ (t : List ℕ). x ++ t) q.parts ∙ sym (append_assoc x y c); rest_fits = q.rest_fits }

-- If a reader took a text from the front, and the bytes after it are known, all bytes are known.
pub also : {a x b c : List ℕ} → Takes a x b → b ≡ c → a ≡ x ++ c
also {x = x} t e = t.parts ∙ ap (λ (s : List ℕ). x ++ s) e

-- ---- numbers

pub record IsWide (w : Width) (limit : ℕ) : Type 0 where
  pub len : (n : ℕ) → length (to_le_bytes w n) ≡ byte_len w
  pub back : (bytes : List ℕ) → length bytes ≡ byte_len w → IsBytes bytes
      → to_le_bytes w (from_le_bytes w bytes) ≡ bytes
  pub again : (n : ℕ) → n < limit → from_le_bytes w (to_le_bytes w n) ≡ n
  pub below : (bytes : List ℕ) → IsBytes bytes → from_le_bytes w bytes < limit

pub wide16 : IsWide w16 (2 ^ 16)
wide16 = search (rules, le_bytes_2)

pub wide32 : IsWide w32 (2 ^ 32)
wide32 = search (rules, le_bytes_4)

pub wide64 : IsWide w64 (2 ^ 64)
wide64 = search (rules, le_bytes_8)

module _ {w : Width} {limit : ℕ} (wide : IsWide w limit) where
  -- The bytes from which a number is read are its spelling, and the number fits its field.
  number_takes : {bytes : List ℕ} {x : ℕ × List ℕ} → IsBytes bytes → number_at w bytes ≡ Ok x
      → Takes bytes (to_le_bytes w x.0) x.1 × (x.0 < limit)
  number_takes {bytes = bytes} fits e =
      let g = guard_ok Short e in
      let long : byte_len w ≤ length bytes = ltb-false _ _ g.0 in
      let front_fits = IsBytes-take (byte_len w) bytes fits in
      let front = wide.back (take (byte_len w) bytes) (omega (arith, length-take (byte_len w) bytes)) front_fits in
      subst (λ (p : ℕ × List ℕ). Takes bytes (to_le_bytes w p.0) p.1 × (p.0 < limit)) (ok_is g.1) (
        record {
          parts = rw front (sym (take-append-drop (byte_len w) bytes));
          rest_fits = IsBytes-drop (byte_len w) bytes fits;
        },
        wide.below (take (byte_len w) bytes) front_fits,
      )

  -- If reading a number and a further step succeed, the number was taken from the front, and the step succeeded with
  -- this number.
  pub number_first : {B : Type 0} {bytes : List ℕ} {f : ℕ × List ℕ → Result B Fault} {y : B} → IsBytes bytes
      → (number_at w bytes >>= f) ≡ Ok y
      → (x : ℕ × List ℕ) × Takes bytes (to_le_bytes w x.0) x.1 × (x.0 < limit) × (f x ≡ Ok y)
  number_first fits e =
      let a = bind_ok e in
      let t = number_takes fits a.1 in
      (a.0, t.0, t.1, a.2)

  -- A number that fits its field is read from its spelling.
  pub number_again : {n : ℕ} → n < limit → (rest : List ℕ) → number_at w (to_le_bytes w n ++ rest) ≡ Ok (n, rest)
  number_again {n = n} lt rest =
      let len = wide.len n in
      let long : ltb (length (to_le_bytes w n ++ rest)) (byte_len w) ≡ false =
      le-ltb _ _ (omega (arith, length-append (to_le_bytes w n) rest)) in
      rw (
        long,
        take_at (to_le_bytes w n) rest (byte_len w) len,
        drop_at (to_le_bytes w n) rest
            (byte_len w) len,
        wide.again n lt,
      ) refl

-- If reading a fixed number and a further step succeed, the number was taken from the front, and the step succeeded
-- with the bytes after it.
pub fixed_first : {B : Type 0} (wanted : ℕ) (fault : Fault) {bytes : List ℕ} {f : List ℕ → Result B Fault} {y : B}
    → IsBytes bytes → (fixed_at wanted fault bytes >>= f) ≡ Ok y
    → (rest : List ℕ) × Takes bytes (to_le_bytes w32 wanted) rest × (f rest ≡ Ok y)
unfolding fixed_at
fixed_first wanted fault {bytes = bytes} fits e =
    let a = bind_ok e in
    let n = number_first wide32 fits a.1 in
    let g = guard_passed fault n.3 in
    let t = subst (λ (m : ℕ). Takes bytes (to_le_bytes w32 m) n.0.1) (eqb-true _ _ g.0) n.1 in
    (a.0, subst (λ (r : List ℕ). Takes bytes (to_le_bytes w32 wanted) r) g.1 t, a.2)

-- A fixed number is read from its spelling.
pub fixed_again : (wanted : ℕ) (fault : Fault) (rest : List ℕ) → wanted < 2 ^ 32
    → fixed_at wanted fault (to_le_bytes w32 wanted ++ rest) ≡ Ok rest
unfolding fixed_at
fixed_again wanted fault rest lt =
    let same : eqb wanted wanted ≡ true = eq-eqb wanted wanted refl in
    rw (number_again wide32 lt rest, same) refl

-- ---- bytes

-- Bytes that are taken are the text that was taken, and they have this length.
pub taken_takes : {count : ℕ} {bytes : List ℕ} {x : List ℕ × List ℕ} → IsBytes bytes → taken_at count bytes ≡ Ok x
    → Takes bytes x.0 x.1 × (length x.0 ≡ count)
unfolding taken_at
taken_takes {count = count} {bytes = bytes} fits e =
    let g = guard_ok Short e in
    let long : count ≤ length bytes = ltb-false _ _ g.0 in
    let len : length (take count bytes) ≡ count = omega (arith, length-take count bytes) in
    subst (λ (p : List ℕ × List ℕ). Takes bytes p.0 p.1 × (length p.0 ≡ count)) (ok_is g.1) (
      record { parts = sym (take-append-drop count bytes); rest_fits = IsBytes-drop count bytes fits },
      len,
    )

-- If taking bytes and a further step succeed, the bytes were taken from the front, and the step succeeded with them.
pub taken_first : {B : Type 0} {count : ℕ} {bytes : List ℕ} {f : List ℕ × List ℕ → Result B Fault} {y : B}
    → IsBytes bytes → (taken_at count bytes >>= f) ≡ Ok y
    → (x : List ℕ × List ℕ) × Takes bytes x.0 x.1 × (length x.0 ≡ count) × (f x ≡ Ok y)
taken_first fits e =
    let a = bind_ok e in
    let t = taken_takes fits a.1 in
    (a.0, t.0, t.1, a.2)

-- Bytes of this length are taken.
pub taken_again : (text rest : List ℕ) (count : ℕ) → length text ≡ count
    → taken_at count (text ++ rest) ≡ Ok (text, rest)
unfolding taken_at
taken_again text rest count len =
    let long : ltb (length (text ++ rest)) count ≡ false = le-ltb _ _ (omega (arith, length-append text rest)) in
    rw (long, take_at text rest count len, drop_at text rest count len) refl

-- ---- names

-- The bytes from which a name is read are its spelling, and its length fits its field.
pub name_takes : {bytes : List ℕ} {x : List ℕ × List ℕ} → IsBytes bytes → name_at bytes ≡ Ok x
    → Takes bytes (name_spelling x.0) x.1 × (length x.0 < 2 ^ 16)
unfolding name_at
name_takes {bytes = bytes} {x = x} fits e =
    let n = number_first wide16 fits e in
    let t = taken_takes n.1.rest_fits n.3 in
    let whole : Takes bytes (name_spelling x.0) x.1 =
    subst (λ (m : ℕ). Takes bytes (to_le_bytes w16 m ++ x.0) x.1) (sym t.1) (Takes-then n.1 t.0) in
    (whole, omega (arith, n.2, t.1))

-- If reading a name and a further step succeed, the name was taken from the front, and the step succeeded with this
-- name.
pub name_first : {B : Type 0} {bytes : List ℕ} {f : List ℕ × List ℕ → Result B Fault} {y : B} → IsBytes bytes
    → (name_at bytes >>= f) ≡ Ok y
    → (x : List ℕ × List ℕ) × Takes bytes (name_spelling x.0) x.1 × (length x.0 < 2 ^ 16) × (f x ≡ Ok y)
name_first fits e =
    let a = bind_ok e in
    let t = name_takes fits a.1 in
    (a.0, t.0, t.1, a.2)

-- A name whose length fits its field is read from its spelling.
pub name_again : (name rest : List ℕ) → length name < 2 ^ 16 → name_at (name_spelling name ++ rest) ≡ Ok (name, rest)
unfolding name_at
name_again name rest lt =
    let regrouped : name_spelling name ++ rest ≡ to_le_bytes w16 (length name) ++ (name ++ rest) = simp append_assoc in
    ap name_at regrouped ∙ rw (number_again wide16 lt (name ++ rest)) (taken_again name rest (length name) refl)

-- ---- magic numbers

-- A magic number that is read was taken from the front.
pub magic_takes : {magic bytes rest : List ℕ} → IsBytes bytes → magic_at magic bytes ≡ Ok rest → Takes bytes magic rest
unfolding magic_at
magic_takes {magic = magic} {bytes = bytes} fits e =
    let g = guard_passed Magic e in
    let front : take 8 bytes ≡ magic = (bytes_eq-Decides (take 8 bytes) magic).0 g.0 in
    subst (λ (r : List ℕ). Takes bytes magic r) g.1 (record {
      parts = sym (take-append-drop 8 bytes) ∙ ap (λ (t : List ℕ). t ++ drop 8 bytes) front;
      rest_fits = IsBytes-drop 8 bytes fits;
    })

-- ---- lengths

-- Reading a number takes the bytes of its width.
pub number_length : (w : Width) (bytes : List ℕ) (n : ℕ) (rest : List ℕ) → number_at w bytes ≡ Ok (n, rest)
    → length rest ≡ length bytes - byte_len w
number_length w bytes n rest e =
    sym (ap (λ (p : ℕ × List ℕ). length p.1) (ok_is (guard_ok Short e).1)) ∙ length-drop (byte_len w) bytes

-- There are as many bytes as the width of a number that is read.
pub number_enough : (w : Width) (bytes : List ℕ) (x : ℕ × List ℕ) → number_at w bytes ≡ Ok x
    → byte_len w ≤ length bytes
number_enough w bytes x e = ltb-false _ _ (guard_ok Short e).0

-- Taking bytes leaves no more than there were.
pub taken_length : (count : ℕ) (bytes : List ℕ) (x : List ℕ × List ℕ) → taken_at count bytes ≡ Ok x
    → length x.1 ≤ length bytes
unfolding taken_at
taken_length count bytes x e =
    let n : length x.1 ≡ length (drop count bytes) =
    sym (ap (λ (p : List ℕ × List ℕ). length p.1) (ok_is (guard_ok Short e).1)) in
    omega (arith, n, length-drop count bytes)

-- Reading a fixed number takes four bytes.
pub fixed_length : (wanted : ℕ) (fault : Fault) (bytes rest : List ℕ) → fixed_at wanted fault bytes ≡ Ok rest
    → length rest ≡ length bytes - 4
unfolding fixed_at
fixed_length wanted fault bytes rest e =
    let a = bind_ok e in
    sym (ap length (guard_passed fault a.2).1) ∙ number_length w32 bytes a.0.0 a.0.1 a.1

-- Reading a magic number takes eight bytes.
pub magic_length : (magic bytes rest : List ℕ) → magic_at magic bytes ≡ Ok rest → length rest ≡ length bytes - 8
unfolding magic_at
magic_length magic bytes rest e = sym (ap length (guard_passed Magic e).1) ∙ length-drop 8 bytes
