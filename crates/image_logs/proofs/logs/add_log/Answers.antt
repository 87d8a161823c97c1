use Rattle.std.proofs.Common.{◌≡◌, ◌<◌, ℕ, List, length, map, refl, sym, ap, subst, ◌∙◌, arith}
use Rattle.std.specs.Prelude.{All, slice_index}
use Rattle.std.specs.Vec.{with_items}
use Rattle.dn_model.specs.Log.{Log, placed}
use Rattle.log_walk.specs.Items.{seen}
use Rattle.log_walk.specs.declared.items.Placed.{Placed as PlacedItem}
use Rattle.file_scan.specs.Index.{MayBeIndexed, IsIndexOf}
use Rattle.file_scan.specs.Names.{IsNamesOf}
use Rattle.image_logs.specs.Usage.{listed, mapped_by, CountsPages}
use Rattle.image_logs.proofs.Hits.{refilled}
use Rattle.image_logs.proofs.OneLog.{may_be_indexed, all_below, few_pages, blocks_below, adds_log, log_is}
use Rattle.image_logs.proofs.logs.add_log.Goals as goal

pub index_log-requires : goal.index_log-requires
index_log-requires g c = subst (All MayBeIndexed) (sym c.deref.ensures.value)
    (may_be_indexed c.args.g.now (g.D.Pm.state c.args.device.now).now c.args.ino c.in_ok-log.log.pages.items c.in_ok-log.log.items.items
    c.requires.accepted c.in_ok-log.ensures.log)

pub count_pages-requires-clause-inside : goal.count_pages-requires-clause-inside
count_pages-requires-clause-inside g c =
    let long : length c.deref_mut.result.now ≡ c.args.g.now.pages = ap length c.deref_mut.ensures.value ∙ c.requires.room.long_logs in
    subst (All (λ (p : ℕ). p < length c.deref_mut.result.now)) (sym c.deref-3.ensures.value)
    (subst (λ (n : ℕ). All (λ (p : ℕ). p < n) c.in_ok-log.log.pages.items) (sym long)
    (all_below c.args.g.now (g.D.Pm.state c.args.device.now).now c.args.ino c.in_ok-log.log.pages.items c.in_ok-log.log.items.items
    c.requires.accepted c.in_ok-log.ensures.log))

pub count_pages-requires-clause-room : goal.count_pages-requires-clause-room
count_pages-requires-clause-room g c = λ p lt.
    let few = few_pages c.args.g.now (g.D.Pm.state c.args.device.now).now c.args.ino c.in_ok-log.log.pages.items c.in_ok-log.log.items.items
    c.requires.accepted c.in_ok-log.ensures.log in
    let long : length c.deref_mut.result.now ≡ c.args.g.now.pages = ap length c.deref_mut.ensures.value ∙ c.requires.room.long_logs in
    let room = c.requires.room.logs p (omega (arith, lt, long)) in
    omega (arith, room, few, ap (λ (xs : List ℕ). slice_index xs p) c.deref_mut.ensures.value, ap length c.deref-3.ensures.value)

pub count_places-requires-clause-inside : goal.count_places-requires-clause-inside
count_places-requires-clause-inside g c = λ idx page e.
    let long : length c.deref_mut-2.result.now ≡ c.args.g.now.pages = ap length c.deref_mut-2.ensures.value ∙ c.requires.room.long_mapped in
    let index_is = subst (λ (xs : List PlacedItem). (log : Log) → map seen xs ≡ placed log → IsIndexOf log c.in_ok-index.index) c.deref.ensures.value
    c.in_ok-index.ensures.index in
    omega (
      arith,
      long,
      blocks_below c.args.g.now (g.D.Pm.state c.args.device.now).now c.args.ino c.in_ok-log.log.pages.items
          c.in_ok-log.log.items.items c.requires.accepted c.in_ok-log.ensures.log c.in_ok-index.index index_is idx page e,
    )

pub returns-clause-adds : goal.returns-clause-adds
returns-clause-adds g c =
    let index_is = subst (λ (xs : List PlacedItem). (log : Log) → map seen xs ≡ placed log → IsIndexOf log c.in_ok-index.index) c.deref.ensures.value
    c.in_ok-index.ensures.index in
    let root = subst (λ (xs : List PlacedItem). c.args.ino ≡ 0 → (log : Log) → map seen xs ≡ placed log → IsNamesOf log c.add_names.new.names.map)
    c.deref-2.ensures.value c.in_ok-add_names.ensures.root in
    let logs : CountsPages (listed c.in_ok-log.log.pages.items) (length c.in_ok-log.log.pages.items) c.args.read.now.in_logs.items c.count_pages.new.counts =
    subst (λ (xs : List ℕ). CountsPages (listed xs) (length xs) c.args.read.now.in_logs.items c.count_pages.new.counts) c.deref-3.ensures.value
    (subst (λ (xs : List ℕ). CountsPages (listed c.deref-3.result.now) (length c.deref-3.result.now) xs c.count_pages.new.counts)
    c.deref_mut.ensures.value c.count_pages.ensures) in
    let places : CountsPages (mapped_by c.in_ok-index.index.map.map) c.args.end c.args.read.now.mapped.items c.count_places.new.counts =
    subst (λ (xs : List ℕ). CountsPages (mapped_by c.in_ok-index.index.map.map) c.args.end xs c.count_places.new.counts) c.deref_mut-2.ensures.value
    c.count_places.ensures in
    adds_log c.args.g.now (g.D.Pm.state c.args.device.now).now c.args.ino c.in_ok-log.log.pages.items c.in_ok-log.log.items.items c.requires.accepted
    c.in_ok-log.ensures.log c.in_ok-index.index index_is
    c.args.end c.args.read.now (record {
      in_logs = with_items c.args.read.now.in_logs c.count_pages.new.counts;
      mapped = with_items
          c.args.read.now.mapped c.count_places.new.counts;
      files = c.args.read.now.files;
      dying = c.args.read.now.dying;
      names = c.add_names.new.names;
    }) c.requires.room c.requires.end refl refl c.in_ok-add_names.ensures.same root
    (subst (λ (xs : List ℕ). CountsPages (listed c.in_ok-log.log.pages.items) (length c.in_ok-log.log.pages.items) c.args.read.now.in_logs.items xs)
    (sym (refilled c.args.read.now.in_logs.len c.args.read.now.in_logs.items c.count_pages.new.counts (logs.long ∙ sym c.args.read.now.in_logs.ok.0)
    (sym c.args.read.now.in_logs.ok.0))) logs)
    (subst (λ (xs : List ℕ). CountsPages (mapped_by c.in_ok-index.index.map.map) c.args.end c.args.read.now.mapped.items xs)
    (sym (refilled c.args.read.now.mapped.len c.args.read.now.mapped.items c.count_places.new.counts (places.long ∙ sym c.args.read.now.mapped.ok.0)
    (sym c.args.read.now.mapped.ok.0))) places)

pub returns-clause-log : goal.returns-clause-log
returns-clause-log g c =
    let index_is = subst (λ (xs : List PlacedItem). (log : Log) → map seen xs ≡ placed log → IsIndexOf log c.in_ok-index.index) c.deref.ensures.value
    c.in_ok-index.ensures.index in
    let pages : c.len.result ≡ length c.in_ok-log.log.pages.items = omega (arith, c.len.ensures, c.in_ok-log.log.pages.ok.0) in
    log_is c.args.g.now (g.D.Pm.state c.args.device.now).now c.args.ino c.in_ok-log.log.pages.items c.in_ok-log.log.items.items c.requires.accepted
    c.in_ok-log.ensures.log c.in_ok-index.index index_is _ refl refl pages
