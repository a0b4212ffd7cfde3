use Rattle.std.proofs.Common.{refl, ◌∙◌, rules}
use borrow.Author.Tests.{tests}
use Rattle.scope.proofs.ScopeFacts.{none_second, some_second, scope-second, not_let, is_let}
use Rattle.scope.proofs.renaming.Renaming.scope_of.Goals as goal

pub returns-in_default : goal.returns-in_default
returns-in_default g c = none_second _ (λ k b q. search (rules, tests)) _ _ _ _ _ _ c.filter.ensures c.in_default.is

pub returns-in_default-read_token : goal.returns-in_default-read_token
returns-in_default-read_token g c =
    let here = some_second _ (λ k b q. search (rules, tests)) _ _ c.filter.ensures _ c.in-Some.is in
    scope-second _ _ _ _ _ _ here.0 here.1 _ c.in_default-read_token.ensures.value _ refl

pub returns-in-Let : goal.returns-in-Let
returns-in-Let g c =
    let here = some_second _ (λ k b q. search (rules, tests)) _ _ c.filter.ensures _ c.in-Some.is in
    scope-second _ _ _ _ _ _ here.0 here.1 _ c.in-Some-read_token.ensures.value _ (c.let_scope.ensures ∙ is_let _ _ _ _ _ _ c.in-Let.is)

pub returns-in_default-kind : goal.returns-in_default-kind
returns-in_default-kind g c =
    let here = some_second _ (λ k b q. search (rules, tests)) _ _ c.filter.ensures _ c.in-Some.is in
    scope-second _ _ _ _ _ _ here.0 here.1 _ c.in-Some-read_token.ensures.value _ (not_let _ _ _ _ _ c.in_default-kind.not-Let)
