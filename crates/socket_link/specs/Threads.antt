-- Jobs that threads give back.
use Rattle.std.specs.Prelude.{◌≡◌, Bool, true, false}

-- how a job comes back: as its work left it, or, where the work was not done, as it was
abbrev pub IsBack : {Job : Type 0} → (Job → Job → Type 0) → Job → Bool → Job → Type 0
IsBack worked job true back = worked job back
IsBack worked job false back = back ≡ job
