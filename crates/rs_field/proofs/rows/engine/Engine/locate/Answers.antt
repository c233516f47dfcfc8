use Rattle.std.proofs.Common.{◌≡◌, ℕ, ◌+◌, ◌-◌, ◌%◌, ◌^◌, ◌<◌, ◌≤◌, List, ◌++◌, length, drop, get_or, sym, ap, ◌∙◌}
use Rattle.std.proofs.Common.{arith}
use Rattle.std.proofs.lemmas.List.{get_or_append_left, get_or-append-add, get_or-drop, get_or-take, get_or-replicate}
use Rattle.rs_field.specs.words.Locator.{log_sum}
use Rattle.rs_field.proofs.words_lemmas.LocatorLemmas.{log_sum-same}
use Rattle.rs_field.proofs.words_lemmas.LocatorProduct.{none_marked_past}
use Rattle.rs_field.proofs.words_lemmas.Convolution.{few_bits}
use Rattle.rs_field.proofs.rows.engine.Engine.locate.Goals as goal

-- A list whose first entries were replaced has the old entries after them.
past : (front whole : List ℕ) (n y : ℕ) → length front ≡ n → n ≤ y
    → get_or (front ++ drop n whole) y 0 ≡ get_or whole y 0
past front whole n y size above =
    let back : n + (y - n) ≡ y = omega arith in
    let there : length front + (y - n) ≡ y = omega arith in
    ap (λ k. get_or (front ++ drop n whole) k 0) (sym there) ∙ get_or-append-add front (drop n whole) (y - n) 0
    ∙ get_or-drop n whole (y - n) 0 ∙ ap (λ k. get_or whole k 0) back

pub eval_poly-requires-clause-zeros : goal.eval_poly-requires-clause-zeros
eval_poly-requires-clause-zeros g c y above inside =
    past c.copy_from_slice.new.self _ (length c.args.erasures.now) y
    (ap (λ (xs : List ℕ). length xs) c.copy_from_slice.ensures.after) above ∙ get_or-replicate 65536 y 0 0 inside

-- If the marks are zero from point n on, the sum over all points is the sum over the first n points.
sum_of_first : (d n : ℕ) (marks whole : List ℕ) (x : ℕ) → n ≡ 2 ^ d → d ≤ 16
    → ((y : ℕ) → n ≤ y → y < 65536 → get_or whole y 0 ≡ 0)
    → ((y : ℕ) → y < n → get_or whole y 0 ≡ get_or marks y 0)
    → log_sum 65536 (λ y. get_or whole y 0) x ≡ log_sum n (λ y. get_or marks y 0) x
sum_of_first d n marks whole x size hd zeros same =
    none_marked_past d (λ y. get_or whole y 0) x hd (λ y above inside. zeros y (omega arith) inside)
    ∙ ap (λ k. log_sum k (λ y. get_or whole y 0) x) (sym size)
    ∙ log_sum-same n (λ y. get_or whole y 0) (λ y. get_or marks y 0) x same

pub returns-clause-values : goal.returns-clause-values
returns-clause-values g c x hx =
    let n : ℕ = length c.args.erasures.now in
    let size : length c.args.erasures.now ≡ 2 ^ c.requires.power.0 = c.requires.power.1 in
    let first : List ℕ = c.copy_from_slice.new.self in
    let copied : length c.copy_from_slice.new.self ≡ length c.args.erasures.now =
    ap (λ (xs : List ℕ). length xs) c.copy_from_slice.ensures.after in
    ap (λ (xs : List ℕ). get_or xs x 0 % 65535) c.copy_from_slice-2.ensures.after
    ∙ ap (λ v. v % 65535) (get_or-take n c.eval_poly.new.erasures x 0 hx)
    ∙ c.eval_poly.ensures.values x (omega (arith, hx, c.requires.few))
    ∙ ap (λ v. v % 65535)
    (sum_of_first c.requires.power.0 n c.args.erasures.now _ x size
    (few_bits c.requires.power.0 (omega (arith, size, c.requires.few)))
    (λ y above inside. past first _ n y copied above ∙ get_or-replicate 65536 y 0 0 inside)
    (λ y hy. get_or_append_left first _ 0 y (omega (arith, copied, hy))
    ∙ ap (λ (xs : List ℕ). get_or xs y 0) c.copy_from_slice.ensures.after))
