use Rattle.std.proofs.Common.{◌≡◌, ◌≢◌, ℕ, inl, refl, sym, ◌∙◌}
use Rattle.std.specs.Prelude.{slice_index}
use Rattle.pm_layout.specs.Geometry.{slot_word}
use Rattle.dn_model.specs.Faults.{direct_row, first_chained}
use Rattle.fact_scan.specs.Scan.{IsFaultOf}
use Rattle.fact_scan.specs.Found.{TakesRow, IsRefusal, IsOnChain}
use Rattle.fact_scan.proofs.Answered.{ok_gives, err_gives}
use Rattle.fact_scan.proofs.Walk.{starts_none, refusal, goes_on}
use Rattle.fact_scan.proofs.found.Found.begin_chain.Goals as goal

page_some : (read page : ℕ) → read ≡ page → read ≢ 0 → page ≢ 0
page_some read page e some none = some (e ∙ none)

page_none : (read page : ℕ) → read ≡ page → read ≡ 0 → page ≡ 0
page_none read page e none = sym e ∙ none

pub returns-then-load_field-eq0-clause-begun : goal.returns-then-load_field-eq0-clause-begun
returns-then-load_field-eq0-clause-begun g c =
    let words = (g.D.Pm.state c.args.device.now).now in
    let found = record c.args.self.now { prints = c.clear.new.self } in
    let page = page_none c.load_field.result (slice_index words (slot_word c.args.g.now c.args.prefix 0)) c.load_field.ensures
    c.if-load_field-eq0.true in
    record {
      chain = c.requires.found.rows.chain;
      own = _;
      at = starts_none c.args.g.now words c.args.prefix c.args.self.now c.requires.prefix c.requires.found found refl refl refl c.clear.ensures.empty;
      comes = first_chained refl page refl c.load_field-then-load_field-eq0.ensures;
      begun = λ direct. direct.1 page;
    }

pub returns-clause-begun : goal.returns-clause-begun
returns-clause-begun g c =
    let words = (g.D.Pm.state c.args.device.now).now in
    let found = record c.args.self.now { prints = c.clear.new.self } in
    let at = starts_none c.args.g.now words c.args.prefix c.args.self.now c.requires.prefix c.requires.found found refl refl refl
    c.clear.ensures.empty in
    let some = page_some c.load_field.result (slice_index words (slot_word c.args.g.now c.args.prefix 0)) c.load_field.ensures
    c.if-load_field-eq0.false in
    ok_gives c.take_row.result (TakesRow c.args.g.now words c.args.prefix c.args.prefix found c.take_row.new.self)
    (λ next. next ≡ slice_index words (slot_word c.args.g.now c.args.prefix 5))
    (λ next. IsOnChain c.args.g.now words c.args.prefix c.take_row.new.self c.args.prefix next)
    (λ next takes next_is. goes_on c.args.g.now words c.args.prefix c.requires.found.rows.chain _ found at c.args.prefix c.args.prefix
    (direct_row refl some refl refl) (inl (refl, some)) next c.take_row.new.self takes next_is)
    c.take_row.ensures.taken c.take_row.ensures.next

pub returns-clause-fault : goal.returns-clause-fault
returns-clause-fault g c =
    let words = (g.D.Pm.state c.args.device.now).now in
    let found = record c.args.self.now { prints = c.clear.new.self } in
    let at = starts_none c.args.g.now words c.args.prefix c.args.self.now c.requires.prefix c.requires.found found refl refl refl
    c.clear.ensures.empty in
    let some = page_some c.load_field.result (slice_index words (slot_word c.args.g.now c.args.prefix 0)) c.load_field.ensures
    c.if-load_field-eq0.false in
    err_gives c.take_row.result (IsRefusal c.args.g.now words c.args.prefix c.args.prefix found) (IsFaultOf c.args.g.now words)
    (refusal c.args.g.now words c.args.prefix c.requires.found.rows.chain _ found at c.args.prefix c.args.prefix (direct_row refl some refl refl)
    (inl (refl, some)))
    c.take_row.ensures.refused
