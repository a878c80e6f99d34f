-- The texts of values lack spaces, newlines and each byte below.
use Rattle.std.proofs.Common.{ℕ, ◌≤◌}
use Rattle.cg_text.specs.Decimal.{IsDecimal}
use Rattle.cg_text.specs.Limit.{IsLimit}
use Rattle.cg_join.specs.LackingLaws.{decimal_lacking, limit_lacking}
use Rattle.cg_join.specs.Line.{LacksByte}

pub decimal_lacks : (b lo hi : ℕ) → b ≤ 32 → LacksByte (λ text n. IsDecimal lo hi n text) b
decimal_lacks b lo hi low = (decimal_lacking b lo hi low).is

pub limit_lacks : (b lo hi : ℕ) → b ≤ 32 → LacksByte (λ text v. IsLimit lo hi v text) b
limit_lacks b lo hi low = (limit_lacking b lo hi low).is
