use Rattle.std.proofs.Common.{◌≡◌, ℕ, List, ◌++◌, length, take, refl, sym, ◌∙◌, ap, subst, arith}
use Rattle.std.specs.Prelude.{All, nat_lt}
use Rattle.std.proofs.lemmas.List.{take-append-drop}
use Rattle.log_entry.specs.Spelling.{IsSpelled, spelled}
use Rattle.law_write.specs.Runs.{run_items}
use Rattle.file_content.specs.Slots.{IsCutInto}
use Rattle.file_content.specs.Runs.{all_seen}
use Rattle.file_content.specs.declared.runs.Run.{Run}
use Rattle.file_write.specs.Plan.{SplitsLog}
use Rattle.file_write.proofs.Planned.{runs-spelled-in, split-whole, split-unused, split-used}
use Rattle.file_write.proofs.plan.plan_pages.Goals as goal

pub run_slots-requires : goal.run_slots-requires
run_slots-requires c =
    let blocks_are : c.in_ok-blocks.blocks.items ≡ c.split_at.result.1.now = c.in_ok-blocks.ensures in
    let cut = subst (λ (ps : List ℕ). IsCutInto c.args.first ps (all_seen c.in_ok-runs.runs.items)) c.deref.ensures.value c.in_ok-runs.ensures in
    let runs_are : c.deref-2.result.now ≡ c.in_ok-runs.runs.items = c.deref-2.ensures.value in
    subst (λ (rs : List Run). All IsSpelled (run_items (all_seen rs) c.args.size)) (sym runs_are)
    (runs-spelled-in c.args.first c.args.size c.in_ok-blocks.blocks.items c.in_ok-runs.runs.items
    (omega (arith, c.requires.in_size, ap length blocks_are, c.split_at.ensures.back_len)) c.requires.small cut)

pub returns : goal.returns
returns c =
    let blocks_are : c.in_ok-blocks.blocks.items ≡ c.split_at.result.1.now = c.in_ok-blocks.ensures in
    let cut = subst (λ (ps : List ℕ). IsCutInto c.args.first ps (all_seen c.in_ok-runs.runs.items)) c.deref.ensures.value c.in_ok-runs.ensures in
    let count : c.len.result ≡ length c.in_ok-runs.runs.items = omega (arith, c.len.ensures, c.in_ok-runs.runs.ok.0) in
    let split = subst (λ (n : ℕ). SplitsLog (nat_lt c.args.room n) c.split_at.result.0.now c.in_ok-fresh.fresh.items c.in_ok-fresh.spare.items) count
    c.in_ok-fresh.ensures in
    record {
      first_is = refl;
      size_is = refl;
      pages_are = ap (λ xs. xs ++ c.in_ok-blocks.blocks.items) (split-whole (nat_lt c.args.room (length c.in_ok-runs.runs.items))
          c.split_at.result.0.now c.in_ok-fresh.fresh.items c.in_ok-fresh.spare.items split)
          ∙ ap (λ xs. c.split_at.result.0.now ++ xs) blocks_are
          ∙ ap (λ xs. xs ++ c.split_at.result.1.now) c.split_at.ensures.front ∙ ap (λ xs. take c.args.extra c.args.pages.now ++ xs)
          c.split_at.ensures.back ∙ take-append-drop c.args.extra c.args.pages.now;
      places_are = omega (arith, ap length blocks_are, c.split_at.ensures.back_len);
      cut = cut;
      spelled_by = ap (λ (rs : List Run). spelled (run_items (all_seen rs) c.args.size)) (sym c.deref-2.ensures.value) ∙ c.in_ok-slots.ensures;
      unused = split-unused c.args.room (length c.in_ok-runs.runs.items) c.split_at.result.0.now c.in_ok-fresh.fresh.items c.in_ok-fresh.spare.items
          split;
      used = split-used c.args.room (length c.in_ok-runs.runs.items) c.split_at.result.0.now c.in_ok-fresh.fresh.items c.in_ok-fresh.spare.items
          split;
    }
