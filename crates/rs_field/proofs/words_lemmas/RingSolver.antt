-- Equations of sums and products of given words are proved by multiplying out and cancelling equal terms in pairs.
use Rattle.std.proofs.Common.{◌≡◌, ℕ, zero, suc, ◌^◌, ◌<◌, List, [], ◌∷◌, ◌++◌, Bool, true, false, ◌&&◌, cond, eqb, leb}
use Rattle.std.proofs.Common.{eqb-true, get_or, bit_xor, refl, sym, ap, ap₂, ◌∙◌, arith}
use Rattle.std.specs.Int.Bits.{xor_comm, xor_assoc, xor_self, xor_zero_r}
use Rattle.std.proofs.lemmas.Bool.{cases_Bool, and_parts}
use Rattle.std.proofs.lemmas.Nat.{pow_pos}
use Rattle.std.proofs.lemmas.Grind.{common_steps}
use Rattle.rs_field.specs.words.Field.{product}
use Rattle.rs_field.proofs.words_lemmas.Product.{product_lt, product_xor_left, product_xor_right, product_zero}
use Rattle.rs_field.proofs.words_lemmas.Product.{zero_product, product_one, one_product}
use Rattle.rs_field.proofs.words_lemmas.Total.{product-assoc, product-left_comm}
use Rattle.rs_field.proofs.words_lemmas.Roots.{WordsOneByOne, same_from_xor}

pub data Expr : Type 0 where
  v : ℕ → Expr
  nought : Expr
  unit : Expr
  plus : Expr → Expr → Expr
  times : Expr → Expr → Expr

abbrev pub meant : List ℕ → Expr → ℕ
meant ts (v i) = get_or ts i 0
meant ts nought = 0
meant ts unit = 1
meant ts (plus a b) = bit_xor (meant ts a) (meant ts b)
meant ts (times a b) = product (meant ts a) (meant ts b)

-- A product of terms is the ordered list of their places, and a sum is a list of such products.
abbrev pub insert : ℕ → List ℕ → List ℕ
insert k [] = k ∷ []
insert k (i ∷ m) = cond (leb k i) (k ∷ i ∷ m) (i ∷ insert k m)

abbrev pub merge : List ℕ → List ℕ → List ℕ
merge [] m = m
merge (i ∷ l) m = insert i (merge l m)

abbrev pub each : List ℕ → List (List ℕ) → List (List ℕ)
each m [] = []
each m (l ∷ p) = merge m l ∷ each m p

abbrev pub multiply : List (List ℕ) → List (List ℕ) → List (List ℕ)
multiply [] q = []
multiply (m ∷ p) q = each m q ++ multiply p q

abbrev pub expanded : Expr → List (List ℕ)
expanded (v i) = (i ∷ []) ∷ []
expanded nought = []
expanded unit = [] ∷ []
expanded (plus a b) = expanded a ++ expanded b
expanded (times a b) = multiply (expanded a) (expanded b)

abbrev pub same : List ℕ → List ℕ → Bool
same [] [] = true
same [] (j ∷ m) = false
same (i ∷ l) [] = false
same (i ∷ l) (j ∷ m) = eqb i j && same l m

abbrev pub kept : Bool → List ℕ → List (List ℕ) → (List (List ℕ) × Bool) → List (List ℕ) × Bool
kept true l p r = (p, true)
kept false l p r = (l ∷ r.0, r.1)

-- The list p without one element m, and whether p had this element.
abbrev pub strip : List ℕ → List (List ℕ) → List (List ℕ) × Bool
strip m [] = ([], false)
strip m (l ∷ p) = kept (same m l) l p (strip m p)

abbrev pub cancels : ℕ → List (List ℕ) → Bool
cancels n [] = true
cancels zero (m ∷ p) = false
cancels (suc n) (m ∷ p) = (strip m p).1 && cancels n (strip m p).0

mono : List ℕ → List ℕ → ℕ
mono ts [] = 1
mono ts (i ∷ m) = product (get_or ts i 0) (mono ts m)

total : List ℕ → List (List ℕ) → ℕ
total ts [] = 0
total ts (m ∷ p) = bit_xor (mono ts m) (total ts p)

mono_lt : (ts m : List ℕ) → mono ts m < 2 ^ 16
unfolding mono
mono_lt ts [] = omega arith
mono_lt ts (i ∷ m) = product_lt _ _

mono-insert : (ts : List ℕ) (k : ℕ) (m : List ℕ) → mono ts (insert k m) ≡ product (get_or ts k 0) (mono ts m)
unfolding mono
mono-insert ts k [] = refl
mono-insert ts k (i ∷ m) = grind (arith, common_steps, cases_Bool, leb, product-left_comm, mono-insert ts k m)

mono-merge : (ts l m : List ℕ) → mono ts (merge l m) ≡ product (mono ts l) (mono ts m)
unfolding mono
mono-merge ts [] m = sym (one_product (mono ts m) (mono_lt ts m))
mono-merge ts (i ∷ l) m =
    mono-insert ts i (merge l m) ∙ ap (product (get_or ts i 0)) (mono-merge ts l m)
    ∙ sym (product-assoc (get_or ts i 0) (mono ts l) (mono ts m))

total-append : (ts : List ℕ) (p q : List (List ℕ)) → total ts (p ++ q) ≡ bit_xor (total ts p) (total ts q)
unfolding total
total-append ts [] q = refl
total-append ts (m ∷ p) q =
    ap (bit_xor (mono ts m)) (total-append ts p q) ∙ sym (xor_assoc (mono ts m) (total ts p) (total ts q))

total-each : (ts m : List ℕ) (p : List (List ℕ)) → total ts (each m p) ≡ product (mono ts m) (total ts p)
unfolding total
total-each ts m [] = sym (product_zero (mono ts m))
total-each ts m (l ∷ p) =
    ap₂ bit_xor (mono-merge ts m l) (total-each ts m p) ∙ sym (product_xor_right (mono ts m) (mono ts l) (total ts p))

total-multiply : (ts : List ℕ) (p q : List (List ℕ)) → total ts (multiply p q) ≡ product (total ts p) (total ts q)
unfolding total
total-multiply ts [] q = sym (zero_product (total ts q))
total-multiply ts (m ∷ p) q =
    grind (arith, common_steps, total-append, total-each, product_xor_left, total-multiply ts p q)

term_lt : (ts : List ℕ) (i : ℕ) → WordsOneByOne ts → get_or ts i 0 < 2 ^ 16
term_lt [] i h = pow_pos 16
term_lt (t ∷ ts) zero h = h.0
term_lt (t ∷ ts) (suc i) h = term_lt ts i h.1

total-expanded : (ts : List ℕ) (e : Expr) → WordsOneByOne ts → meant ts e ≡ total ts (expanded e)
unfolding total mono
total-expanded ts (v i) h = sym (xor_zero_r _ ∙ product_one (get_or ts i 0) (term_lt ts i h))
total-expanded ts nought h = refl
total-expanded ts unit h = refl
total-expanded ts (plus a b) h = ap₂ bit_xor (total-expanded ts a h) (total-expanded ts b h)
    ∙ sym (total-append ts (expanded a) (expanded b))
total-expanded ts (times a b) h = ap₂ product (total-expanded ts a h) (total-expanded ts b h)
    ∙ sym (total-multiply ts (expanded a) (expanded b))

same_is : (l m : List ℕ) → same l m ≡ true → l ≡ m
same_is [] [] h = refl
same_is [] (j ∷ m) h = cc
same_is (i ∷ l) [] h = cc
same_is (i ∷ l) (j ∷ m) h =
    ap₂ (λ (x : ℕ) (xs : List ℕ). x ∷ xs) (eqb-true i j (and_parts (eqb i j) (same l m) h).0)
    (same_is l m (and_parts (eqb i j) (same l m) h).1)

stripped : (ts m : List ℕ) (p : List (List ℕ)) → (strip m p).1 ≡ true
    → total ts p ≡ bit_xor (mono ts m) (total ts (strip m p).0)
unfolding total
stripped ts m [] h = cc
stripped ts m (l ∷ p) h = by_test (stripped ts m p) (same m l) refl h
  where
    exchange : (a b c : ℕ) → bit_xor a (bit_xor b c) ≡ bit_xor b (bit_xor a c)
    exchange a b c = sym (xor_assoc a b c) ∙ ap (λ x. bit_xor x c) (xor_comm a b) ∙ xor_assoc b a c

    by_test : ((strip m p).1 ≡ true → total ts p ≡ bit_xor (mono ts m) (total ts (strip m p).0)) → (t : Bool)
        → same m l ≡ t → (kept t l p (strip m p)).1 ≡ true
        → bit_xor (mono ts l) (total ts p) ≡ bit_xor (mono ts m) (total ts (kept t l p (strip m p)).0)
    by_test ih true e h = ap (λ x. bit_xor (mono ts x) (total ts p)) (sym (same_is m l e))
    by_test ih false e h = ap (bit_xor (mono ts l)) (ih h) ∙ exchange (mono ts l) (mono ts m) (total ts (strip m p).0)

cancelled : (n : ℕ) (ts : List ℕ) (p : List (List ℕ)) → cancels n p ≡ true → total ts p ≡ 0
unfolding total
cancelled n ts [] h = refl
cancelled zero ts (m ∷ p) h = cc
cancelled (suc n) ts (m ∷ p) h =
    ap (bit_xor (mono ts m)) (stripped ts m p (and_parts _ _ h).0)
    ∙ sym (xor_assoc (mono ts m) (mono ts m) (total ts (strip m p).0))
    ∙ ap (λ x. bit_xor x (total ts (strip m p).0)) (xor_self (mono ts m))
    ∙ cancelled n ts (strip m p).0 (and_parts _ _ h).1

abbrev pub equal_by_algebra : Expr → Expr → Bool
equal_by_algebra a b = cancels 200 (expanded (plus a b))

pub by_algebra : (ts : List ℕ) (a b : Expr) → WordsOneByOne ts → equal_by_algebra a b ≡ true → meant ts a ≡ meant ts b
by_algebra ts a b h e =
    same_from_xor (meant ts a) (meant ts b) (total-expanded ts (plus a b) h ∙ cancelled 200 ts (expanded (plus a b)) e)
