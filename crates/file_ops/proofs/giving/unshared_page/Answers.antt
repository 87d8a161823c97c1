use Rattle.std.proofs.Common.{sym, ◌∙◌, ap}
use Rattle.std.specs.Prelude.{Some}
use Rattle.file_ops.proofs.GivenPages.{unshared_at, at_unshared, row_has, none_is, page_is, page_none}
use Rattle.file_ops.proofs.giving.unshared_page.Goals as goal

pub returns-in-Some : goal.returns-in-Some
returns-in-Some g c = λ d table page. (
  (λ e. absurd (none_is page e)),
  (λ h.
      let here = unshared_at _ c.in_ok-mapping.mapping d page (sym c.get.ensures ∙ c.in_ok-mapping.was) h in
      absurd (row_has d c.in_ok-mapping.mapping.block page _ (c.in-Some.ensures.found d table) here.0 here.1)),
)

pub returns-in-None : goal.returns-in-None
returns-in-None g c = λ d table page. (
  (λ e. at_unshared _ c.in_ok-mapping.mapping d page (sym c.get.ensures ∙ c.in_ok-mapping.was) (page_is _ page e)
      (page_none d _ page (page_is _ page e) (c.in-None.ensures.none d table))),
  (λ h. let here = unshared_at _ c.in_ok-mapping.mapping d page (sym c.get.ensures ∙ c.in_ok-mapping.was) h in ap (λ p. Some p) here.0),
)
