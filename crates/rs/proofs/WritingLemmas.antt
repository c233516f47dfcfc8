-- Lemmas about the bytes of a writer, to which texts are appended one after another.
use Rattle.std.proofs.Common.{◌≡◌, ℕ, suc, ◌+◌, ◌-◌, ◌<◌, ◌≤◌, List, [], ◌∷◌, ◌++◌, length, take, drop, get_or, Option}
use Rattle.std.proofs.Common.{Some, None, ◌∙◌, ap, sym, subst, append_assoc, append-nil, arith, length-append}
use Rattle.std.proofs.Common.{length-drop}
use Rattle.std.specs.Io.KnownBytes.{Appends}
use Rattle.std.proofs.Math.Seq.{take-add}
use Rattle.std.proofs.lemmas.Grind.{flat_map-append}
use Rattle.std.proofs.lemmas.List.{take_all, drop_more, take-append-drop, take-append-le}
use Rattle.std.specs.List.{flat_map}
use Rattle.rs.specs.Reported.{CutShort}

-- If a text is appended and then another text, both texts one after the other are appended.
pub appends-appends : (a b c : Option (List ℕ)) (xs ys : List ℕ) → Appends a b xs → Appends b c ys
    → Appends a c (xs ++ ys)
appends-appends None b c xs ys p q = tt
appends-appends (Some a) None c xs ys p q = absurd p
appends-appends (Some a) (Some b) None xs ys p q = absurd q
appends-appends (Some a) (Some b) (Some c) xs ys p q = q ∙ ap (λ t. t ++ ys) p ∙ append_assoc a xs ys

left_of : (text : List ℕ) (k : ℕ) → take (length text - k) (drop k text) ≡ drop k text
left_of text k = take_all (length text - k) (drop k text) (omega (arith, length-drop k text))

-- If the first k bytes of a text are appended, and then the first n of its remaining bytes, the first k + n bytes are
-- appended.
pub appends-front : (a b c : Option (List ℕ)) (text : List ℕ) (k n : ℕ) → Appends a b (take k text)
    → Appends b c (take n (take (length text - k) (drop k text))) → Appends a c (take (k + n) text)
appends-front a b c text k n p q =
    rw (take-add k n text) (appends-appends a b c (take k text) (take n (drop k text)) p (rw (left_of text k) at q))

-- If k bytes of a text are written and n of the remaining bytes are taken, k + n is at most the length of the text.
pub front-within : (text : List ℕ) (k n : ℕ) → k ≤ length text → n ≤ length (take (length text - k) (drop k text))
    → k + n ≤ length text
front-within text k n within few = let fewer : n ≤ length (drop k text) = rw (left_of text k) at few in
    omega (arith, length-drop k text)

take-behind : (front text : List ℕ) (n : ℕ) → take (length front + n) (front ++ text) ≡ front ++ take n text
take-behind [] text n = let none : 0 + n ≡ n = omega arith in ap (λ k. take k text) none
take-behind (x ∷ front) text n =
    let more : length (x ∷ front) + n ≡ suc (length front + n) = omega arith in
    ap (λ k. take k (x ∷ (front ++ text))) more ∙ ap (λ xs. x ∷ xs) (take-behind front text n)

-- If the texts before text i are appended, and then text i, the first i + 1 texts are appended.
pub text-at : {X : Type 0} (f : X → List ℕ) (a b c : Option (List ℕ)) (texts : List X) (i : ℕ) (d : X)
    → i < length texts → Appends a b (flat_map f (take i texts))
    → Appends b c (f (get_or texts i d)) → Appends a c (flat_map f (take (i + 1) texts))
text-at f a b c texts i d inside written more =
    let further : take (i + 1) texts ≡ take i texts ++ (get_or texts i d ∷ []) =
    take-add i 1 texts ∙ ap (λ xs. take i texts ++ take 1 xs) (drop_more texts i d inside) in
    let last : f (get_or texts i d) ++ [] ≡ f (get_or texts i d) = append-nil (f (get_or texts i d)) in
    let whole : flat_map f (take (i + 1) texts) ≡ flat_map f (take i texts) ++ f (get_or texts i d) =
    ap (flat_map f) further ∙ flat_map-append f (take i texts) (get_or texts i d ∷ [])
    ∙ ap (λ xs. flat_map f (take i texts) ++ xs) last in
    subst (Appends a c) (sym whole)
    (appends-appends a b c (flat_map f (take i texts)) (f (get_or texts i d)) written more)

-- If the texts before text i are appended, and then only a first part of text i, only a first part of all texts is
-- appended.
pub cut-at : {X : Type 0} (f : X → List ℕ) (a b c : Option (List ℕ)) (texts : List X) (i : ℕ) (d : X) → i < length texts
    → Appends a b (flat_map f (take i texts))
    → CutShort b c (f (get_or texts i d)) → CutShort a c (flat_map f texts)
cut-at f a b c texts i d inside written cut =
    let front = flat_map f (take i texts) in
    let text = f (get_or texts i d) in
    let rest = flat_map f (drop (i + 1) texts) in
    let whole : flat_map f texts ≡ front ++ (text ++ rest) =
    ap (flat_map f) (sym (take-append-drop i texts)) ∙ flat_map-append f (take i texts) (drop i texts)
    ∙ ap (λ xs. front ++ flat_map f xs) (drop_more texts i d inside) in
    let long : length (front ++ (text ++ rest)) ≡ length front + length (text ++ rest) =
    length-append front (text ++ rest) in
    let longer : length (text ++ rest) ≡ length text + length rest = length-append text rest in
    subst (CutShort a c) (sym whole) (
      length front + cut.0,
      omega (arith, long, longer, cut.1),
      subst (Appends a c) (sym
          (take-behind front (text ++ rest) cut.0
          ∙ ap (λ xs. front ++ xs) (take-append-le cut.0 text rest (omega (arith, cut.1)))))
          (appends-appends a b c front (take cut.0 text) written cut.2),
    )
