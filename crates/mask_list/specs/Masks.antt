-- Lists of masks.
use Rattle.std.specs.Prelude.{ℕ, ◌↔◌, List}
use Rattle.std.specs.List.{Contains}

-- both lists have the same masks, however often and in whatever order
abbrev pub AreMasksOf : List ℕ → List ℕ → Type 0
AreMasksOf masks list = (mask : ℕ) → Contains masks mask ↔ Contains list mask
