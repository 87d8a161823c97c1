use Rattle.std.proofs.Common.{◌≡◌, ℕ, List, take, length, sym, ◌∙◌, ap, IfOk}
use Rattle.std.specs.List.{list_all}
use Rattle.std.proofs.lemmas.List.{take-map}
use Rattle.std.proofs.lemmas.Result.{IfOk-weaker}
use Rattle.pm_device.specs.Picks.{IsPicked}
use Rattle.pm_device.specs.MemLog.{calls_of, call_of, is_whole, is_inside}
use Rattle.pm_device.specs.declared.entry.Entry.{Entry}
use Rattle.pm_device.proofs.Picked.{list_all-take, picks_at, picked_left}
use Rattle.pm_device.proofs.memory.MemPm.image_at.Goals as goal

pub picked_image-requires-clause-whole : goal.picked_image-requires-clause-whole
picked_image-requires-clause-whole c = let m = c.args.self.now in
    ap (λ (es : List Entry). list_all (is_whole (length c.deref-3.result.now)) (take c.args.moment es)) c.deref.ensures.value
    ∙ ap (λ (xs : List ℕ). list_all (is_whole (length xs)) (take c.args.moment m.entries.items)) c.deref-3.ensures.value
    ∙ list_all-take (is_whole (length m.kept.items)) c.args.moment m.entries.items m.whole

pub picked_image-requires-clause-inside : goal.picked_image-requires-clause-inside
picked_image-requires-clause-inside c = let m = c.args.self.now in
    ap (λ (es : List Entry). list_all (is_inside (length c.deref-2.result.now)) (take c.args.moment es)) c.deref.ensures.value
    ∙ ap (λ (xs : List ℕ). list_all (is_inside (length xs)) (take c.args.moment m.entries.items)) c.deref-2.ensures.value
    ∙ list_all-take (is_inside (length m.first.items)) c.args.moment m.entries.items m.inside

picked : (c : goal.After-picked_image) → let m = c.args.self.now in IfOk c.picked_image.result
    (λ v. IsPicked (record { first = m.first.items; calls = calls_of m.kept.items m.entries.items }) c.args.moment c.args.pick v.items)
picked c =
    let m = c.args.self.now in
    let calls : calls_of c.deref-3.result.now (take c.args.moment c.deref.result.now) ≡ take c.args.moment (calls_of m.kept.items m.entries.items) =
    ap (λ (xs : List ℕ). calls_of xs (take c.args.moment c.deref.result.now)) c.deref-3.ensures.value
    ∙ ap (λ (es : List Entry). calls_of m.kept.items (take c.args.moment es)) c.deref.ensures.value ∙ sym
    (take-map (call_of m.kept.items) c.args.moment m.entries.items) in
    IfOk-weaker c.picked_image.result _ _ (λ v. picks_at (record { first = m.first.items; calls = calls_of m.kept.items m.entries.items })
    c.args.moment c.args.pick _ v.items _ c.deref-2.ensures.value calls) c.picked_image.ensures

pub returns-clause-picked : goal.returns-clause-picked
returns-clause-picked c = picked c

pub returns-clause-left : goal.returns-clause-left
returns-clause-left c = let m = c.args.self.now in
    IfOk-weaker c.picked_image.result _ _ (λ v. picked_left (record { first = m.first.items; calls = calls_of m.kept.items m.entries.items })
    c.args.moment c.args.pick v.items c.requires) (picked c)
