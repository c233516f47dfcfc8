use Rattle.std.proofs.Common.{◌≡◌, ℕ, ◌^◌, arith}
use Rattle.rs_field.proofs.words_lemmas.Convolution.{few_bits}
use Rattle.rs_field.proofs.words_lemmas.LogWalsh.{part-below}
use Rattle.rs_field.proofs.words.lent_tables.LentTables.log_walsh_below.Goals as goal

pub returns : goal.returns
returns c =
    let d : ℕ = c.requires.power.0 in
    let size : c.args.points ≡ 2 ^ d = c.requires.power.1 in
    part-below d c.args.points c.args.self.log_walsh.now size
    (few_bits d (omega (arith, size, c.requires.few))) c.args.self.log_walsh_entries
