use Rattle.std.proofs.Common.{◌<◌, ◌≤◌, ℕ, get_or, take, arith}
use Rattle.std.proofs.lemmas.List.{take-take}
use Rattle.cg_text.specs.PlainLaws.{plain_front}
use Rattle.cg_text.specs.ScanLaws.{raw_lacking}
use Rattle.cg_text.specs.Texts.{Lacks}
use Rattle.cg_text.proofs.raw.raw_length.Goals as goal

pub returns-clause-raw : goal.returns-clause-raw
returns-clause-raw c =
    let bytes = c.args.bytes.now in
    let n = c.count_before-2.result in
    let few : n ≤ c.count_before.result = omega (arith, c.count_before-2.ensures.within, c.split_at.ensures.front_len) in
    let small : (i : ℕ) → get_or bytes i 0 < 256 = λ i. omega (arith, c.type_inv.bytes i) in
    let no_nul : Lacks 0 (take n bytes) = rw (take-take n c.count_before.result bytes few) at (rw c.split_at.ensures.front at c.count_before-2.ensures.lacks) in
    raw_lacking bytes n small no_nul (plain_front 10 bytes n c.count_before.result few c.count_before.ensures.lacks)
