-- What goes out of an answer of the code is what goes out of the answer that it means. Assumes nothing.
use mathlib.Core.Path.{◌≡◌, refl}
use Rattle.std.specs.Prelude.{Result, Ok, Err}
use Rattle.error.specs.Refusal.{value_or}
use Rattle.error.specs.Answers.{result_answer}
use Rattle.error.specs.declared.Refusal.{Refusal}
use Rattle.ouriscado.specs.Answers.{value_in}

-- a value, which `g` makes out of what `f` told of it
pub value_meant : {T A : Type 0} (f : T → A) (g : A → T) → ((x : T) → x ≡ g (f x)) → (r : Result T Refusal) (other : T)
    → value_in r other ≡ value_or g (result_answer f r) other
value_meant f g same (Ok x) other = same x
value_meant f g same (Err refusal) other = refl
