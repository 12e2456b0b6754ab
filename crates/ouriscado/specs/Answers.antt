-- What goes out of an answer of the code, as C has it.
use Rattle.std.specs.Prelude.{Bool, true, false, Option, Some, None, Result, Ok, Err}
use Rattle.error.specs.declared.Refusal.{Refusal}

-- The value of an answer, or another where it is refused.
abbrev pub value_in : {T : Type 0} → Result T Refusal → T → T
value_in (Ok value) other = value
value_in (Err refusal) other = other

-- A value that may be there, or another where it isn't.
abbrev pub value_of : {T : Type 0} → Option T → T → T
value_of (Some value) other = value
value_of None other = other

-- There is a value.
abbrev pub is_there : {T : Type 0} → Option T → Bool
is_there (Some value) = true
is_there None = false
