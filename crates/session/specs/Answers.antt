-- What is printed of a machine's answers, behind what was printed before. Assumes nothing: these are definitions.
use Rattle.std.specs.Prelude.{ℕ, List, ◌++◌, codes, decimal}
use Rattle.session.specs.declared.answers.Ending.{Ending}
use Rattle.session.specs.declared.answers.Ending.TheVariants.{Done, Refused}
use Rattle.session.specs.Hex.{hex_of}

abbrev pub with_row : List ℕ → List ℕ → List ℕ
with_row printed row = printed ++ codes "shows " ++ hex_of row ++ codes "\n"

abbrev pub ending_text : Ending → List ℕ
ending_text Done = codes "done"
ending_text (Refused reason) = codes "refused " ++ decimal reason

abbrev pub with_ending : List ℕ → Ending → List ℕ
with_ending printed ending = printed ++ ending_text ending ++ codes "\n"
