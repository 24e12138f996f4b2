-- The set that the values of a statement or of an argument make.
use Rattle.std.specs.Prelude.{ℕ, ◌<◌, ◌≤◌, ◌^◌, ◌↔◌, List, Any}
use Rattle.hk_base.specs.Sets.{Has}
use Rattle.hk_lines.specs.Phrases.{Values}

-- the set of these values
pub record IsSetOf (set : List Values) (domain : ℕ) : Type 0 where
  pub small : domain < 2 ^ 128
  pub values : (value : ℕ) → Has domain value ↔ Any (λ values. (values.first ≤ value) × (value ≤ values.last)) set
