-- A day as a person sees it in the report.
use Rattle.std.specs.Prelude.{ℕ, Bool, List, count_by, ◌==◌}
use Rattle.kinds.specs.declared.row.HourMode.{HourMode}
use Rattle.kinds.specs.declared.row.HourMode.TheVariants.{Off, Low, Comfort}
use Rattle.kinds.specs.Row.{code_of}

-- the codes of '.', '-' and '#'
abbrev pub sign_of : HourMode → ℕ
sign_of Off = 46
sign_of Low = 45
sign_of Comfort = 35

abbrev pub same_mode : HourMode → HourMode → Bool
same_mode m n = code_of m == code_of n

-- how many hours are in a mode
abbrev pub hours_in : HourMode → List HourMode → ℕ
hours_in mode hours = count_by (λ hour. same_mode hour mode) hours
