use Rattle.std.proofs.Common.{rules, ◌≡◌, ℕ, ◌+◌, ◌<◌, ◌≤◌, ◌^◌, ◌/◌, ◌%◌, [], ◌∷◌, ◌++◌, length, decimal, sym, ap, ◌∙◌}
use Rattle.std.proofs.Common.{arith, append_assoc, lit<}
use Rattle.std.proofs.lemmas.Fmt.{decimal_digit, decimal_step, length-decimal-le}
use Rattle.std.proofs.lemmas.List.{length-append}
use Rattle.rs_ffi.specs.Texts.{text_over}
use Rattle.rs_ffi.proofs.writing.+put_number.Goals as goal

-- The decimal text of a number below ten is one digit.
last-digit : (n : ℕ) → n < 10 → decimal n ≡ (48 + n % 10) ∷ []
last-digit n small = search (rules, decimal_digit)

pub returns-then-number-lt10-clause-end : goal.returns-then-number-lt10-clause-end
returns-then-number-lt10-clause-end t c = search (rules, last-digit)

pub returns-then-number-lt10-clause-written : goal.returns-then-number-lt10-clause-written
returns-then-number-lt10-clause-written t c text old sized is =
    c.put_bytes.ensures.written text old sized is
    ∙ ap (λ digits. text_over (text ++ digits) old) (sym (last-digit c.args.number c.if-number-lt10.true))

pub returns-clause-end : goal.returns-clause-end
returns-clause-end t c =
    let n = c.args.number in
    let fits : n < 2 ^ 64 = omega (arith, c.ranges.number) in
    let longer : length (decimal n) ≡ length (decimal (n / 10)) + 1 =
    ap length (decimal_step n c.if-number-lt10.false fits)
    ∙ length-append (decimal (n / 10)) ((48 + n % 10) ∷ []) in
    let short : length (decimal n) ≤ 20 = length-decimal-le 20 n (lit< tt) (omega (arith, fits)) fits in (
      omega (arith, c.put_bytes-2.ensures.end, c.put_number-end.ensures.end.0, longer),
      omega
          (arith, c.put_bytes-2.ensures.end, c.put_number-end.ensures.end.0, longer, short),
    )

pub returns-clause-written : goal.returns-clause-written
returns-clause-written t c text old sized is = search (rules, length-append, append_assoc, decimal_step)
