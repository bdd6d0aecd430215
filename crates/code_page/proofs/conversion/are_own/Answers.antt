-- What was seen so far is whether all so far are own.
use Rattle.std.specs.Prelude.{◌≡◌, refl}
use Rattle.std.specs.List.{list_all}
use Rattle.std.proofs.Common.{sym, ◌∙◌, rules}
use Rattle.std.proofs.lemmas.Fn.{fold_over, slice_gives, fronts}
use Rattle.std.proofs.lemmas.List.Folds.{list_all-append}
use Rattle.std.proofs.lemmas.List.Sums.{AllPass-from_list_all, list_all-from_AllPass}
use Rattle.code_page.proofs.conversion.are_own.Goals as goal

pub returns : goal.returns
returns g c =
    let own = g.T.Character.is_own in
    let xs = c.args.input.now in
    let seen : c.fold.result ≡ list_all own xs = rw c.iter.ensures.rest at (fold_over fronts (λ x. x.now) _ (λ ys a. a ≡ list_all own ys) _
    (λ ys a x b f' j k. search (rules, list_all-append)) _ _ _ _ (slice_gives c.iter.result) refl c.fold.ensures.ran) in
    (λ e. AllPass-from_list_all own xs (sym seen ∙ e), λ a. seen ∙ list_all-from_AllPass own xs a)
