use Rattle.std.proofs.Common.{◌≡◌, ◌∙◌, rules, nat_lt, Bool, ◌&&◌, List, [], ◌∷◌, refl, ap}
use Rattle.std.specs.List.{list_all}
use Rattle.std.proofs.lemmas.Iterator.{YieldsList-from_slice}
use Rattle.std.proofs.lemmas.Iterator.Search.{all_from_yields_List}
use borrow.Author.Tests.{tests}
use Rattle.language.specs.Basics.{every}
use Rattle.wire.proofs.field.are_parts.Goals as goal

every_listed : {A : Type 0} (p : A → Bool) (xs : List A) → list_all p xs ≡ every p xs
every_listed p [] = refl
every_listed p (x ∷ xs) = ap (λ b. p x && b) (every_listed p xs)

pub returns : goal.returns
returns c =
    all_from_yields_List (λ k. nat_lt k 16) _ _ _ c.all.ensures.ran (YieldsList-from_slice c.args.numbers.now cc) (λ x b q k. search (rules, tests))
    ∙ every_listed (λ k. nat_lt k 16) c.args.numbers.now
