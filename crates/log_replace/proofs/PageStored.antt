-- A page of a log is written, and settled.
use Rattle.std.proofs.Common.{◌≡◌, ◌⊎◌, inl, inr, ⊎_elim, ℕ, ◌+◌, ◌-◌, ◌*◌, ◌/◌, ◌%◌, ◌<◌, ◌≤◌, List, [], length, get_or, refl, sym, ◌∙◌, ap, subst, arith}
use Rattle.std.specs.Prelude.{slice_index}
use Rattle.std.proofs.lemmas.Bool.{cases_eq}
use Rattle.pm_device.specs.State.{State, Agree}
use Rattle.pm_device.specs.Settled.{StoresOnly, KeepsFlushed, Anyone, Others, Nowhere, FlushesAll, SettlesAll}
use Rattle.pm_device.specs.Pages.{IsInPage}
use Rattle.pm_device.specs.Reading.{Said, Stands, IsReady}
use Rattle.pm_device.specs.Commit.{Settles}
use Rattle.pm_device.proofs.OneWord.{stands-stores}
use Rattle.pm_device.proofs.Only.{stores_only-then, stores_only-weaken}
use Rattle.pm_device.proofs.Flushed.{keeps-then, keeps-weaken}
use Rattle.pm_device.proofs.AllFlushed.{flushes-then, flushes-settle}
use Rattle.pm_device.proofs.Layers.{ready-stores, ready-both, ready-settles, stands-weaken}
use Rattle.pm_layout.specs.declared.Geometry.{Geometry}
use Rattle.log_entry.specs.Spelling.{spelled}
use Rattle.dn_model.specs.Log.{Log, IsPaged, count, log_word, footer_word, spelled_word}
use Rattle.law_log_swap.specs.Replaced.{BodySays, body_footer, body_slot}
use Rattle.law_log_swap.proofs.ReplacedLog.{body_stores}
use Rattle.log_replace.specs.Bodies.{PageSays, page_link, page_slot, BodyTo, IsLogOf, AddsPage, StoresPage, DisksStandStill}
use Rattle.log_replace.specs.Slots.{SlotsSay, IsSlotWord, LinkSays, IsLinkWord}

-- the slots of a log, from its items
pub count_is : (log : Log) → count log ≡ length (spelled log.items)
unfolding count
count_is log = refl

pub word_is : (log : Log) (n j : ℕ) → spelled_word log n j ≡ slice_index (get_or (spelled log.items) n []) j
unfolding spelled_word
word_is log n j = refl

-- what a page says its body says
pub page_in_body : (log : Log) (k a v : ℕ) → PageSays log k a v → BodySays log a v
page_in_body log k a v (page_link more place value) = body_footer k more place value
page_in_body log k a v (page_slot n j of_page lt small place value) = body_slot n j lt small place value

-- each word of which page k of a log speaks lies in it
pub page_there : (log : Log) (k a v : ℕ) → PageSays log k a v → IsInPage (slice_index log.pages k) a
page_there log k a v (page_link more place value) = (omega (arith, place), omega (arith, place))
page_there log k a v (page_slot n j of_page lt small place value) =
    let p : a ≡ 512 * slice_index log.pages k + 8 * (n % 63) + j = place ∙ ap (λ (i : ℕ). 512 * slice_index log.pages i + 8 * (n % 63) + j) of_page in
    (omega (arith, p), omega (arith, p, small))

-- the slots of page k, and what follows it
module _ (pages : List ℕ) (slots : List (List ℕ)) (k last : ℕ) (lt : k < length pages) (some : 63 * k < last) (few : last ≤ 63 * k + 63)
    (there : last ≤ length slots) where
  abbrev page : ℕ
  page = slice_index pages k

  abbrev Fresh : ℕ → ℕ → Type 0
  Fresh a v = SlotsSay page slots (63 * k) last a v ⊎ LinkSays pages k a v

  -- all the words that are stored
  abbrev IsStored : ℕ → Type 0
  IsStored a = IsSlotWord page (last - 63 * k) a ⊎ IsLinkWord pages k a

  stored_there : (a : ℕ) → IsStored a → IsInPage page a
  stored_there a stored = ⊎_elim
      (λ (slot : IsSlotWord page (last - 63 * k) a). (omega (arith, slot.0), omega (arith, slot.1, few)))
      (λ (link : IsLinkWord pages k a). (omega (arith, link.place), omega (arith, link.place))) stored

  slots_apart : (a v : ℕ) → SlotsSay page slots (63 * k) last a v → IsLinkWord pages k a → ⊥
  slots_apart a v told link = omega (arith, told.place, told.low, told.high, told.small, link.place, few)

  module _ (log : Log) (is : IsLogOf pages slots log) (all : (n : ℕ) → n < 63 * k + 63 → n < length slots → n < last) where
    -- each of these words is the log's
    slot_said : (a : ℕ) → IsSlotWord page (last - 63 * k) a → Said (PageSays log k) a
    slot_said a slot =
        let n = 63 * k + (a - 512 * page) / 8 in let j = (a - 512 * page) % 8 in
        let place : a ≡ 512 * page + 8 * (n % 63) + j = slot_place slot in
        record {
          value = spelled_word log n j;
          told = page_slot n j (of_page slot) (in_log slot) (omega arith) (place ∙ at_log n j (of_page slot)) refl;
        }
      where
        slot_place : IsSlotWord page (last - 63 * k) a
            → a ≡ 512 * page + 8 * ((63 * k + (a - 512 * page) / 8) % 63) + (a - 512 * page) % 8
        slot_place here = omega (arith, here.0, here.1, few, some)

        of_page : IsSlotWord page (last - 63 * k) a → (63 * k + (a - 512 * page) / 8) / 63 ≡ k
        of_page here = omega (arith, here.0, here.1, few, some)

        in_log : IsSlotWord page (last - 63 * k) a → 63 * k + (a - 512 * page) / 8 < count log
        in_log here = omega (arith, here.0, here.1, few, some, there, count_is log, ap length is.slots_are)

        at_log : (n j : ℕ) → n / 63 ≡ k → 512 * slice_index pages k + 8 * (n % 63) + j ≡ log_word log.pages n j
        at_log n j e = ap (λ (i : ℕ). 512 * slice_index pages i + 8 * (n % 63) + j) (sym e)
            ∙ ap (λ (ps : List ℕ). 512 * slice_index ps (n / 63) + 8 * (n % 63) + j) (sym is.pages_are)

    link_said : (a : ℕ) → IsLinkWord pages k a → Said (PageSays log k) a
    link_said a link = record {
      value = slice_index log.pages (k + 1);
      told = page_link (subst (λ (ps : List ℕ). k + 1 < length ps) (sym is.pages_are) link.more)
          (link.place ∙ ap (λ (ps : List ℕ). footer_word ps k) (sym is.pages_are)) refl;
    }

    stored_said : (a : ℕ) → IsStored a → Said (PageSays log k) a
    stored_said a stored = ⊎_elim (λ (slot : IsSlotWord page (last - 63 * k) a). slot_said a slot)
        (λ (link : IsLinkWord pages k a). link_said a link) stored

    -- and all that page k says stands there
    fresh_is : (a v : ℕ) → PageSays log k a v → Fresh a v
    fresh_is a v (page_link more place value) = inr (record {
      more = subst (λ (ps : List ℕ). k + 1 < length ps) is.pages_are more;
      place = place ∙ ap (λ (ps : List ℕ). footer_word ps k) is.pages_are;
      value = value ∙ ap (λ (ps : List ℕ). slice_index ps (k + 1)) is.pages_are;
    })
    fresh_is a v (page_slot n j of_page below small place value) = inl (record {
      n = n;
      j = j;
      low = omega (arith, of_page);
      high = all n (omega (arith, of_page)) (omega (arith, below, count_is log, ap length is.slots_are));
      small = small;
      place = here n j of_page place;
      value = value ∙ word_is log n j ∙ ap (λ (xs : List (List ℕ)). slice_index (get_or xs n []) j) is.slots_are;
    })
      where
        here : (n j : ℕ) → n / 63 ≡ k → a ≡ log_word log.pages n j → a ≡ 512 * slice_index pages k + 8 * (n - 63 * k) + j
        here n j e at =
            let p : a ≡ 512 * slice_index pages k + 8 * (n % 63) + j =
            at ∙ ap (λ (ps : List ℕ). 512 * slice_index ps (n / 63) + 8 * (n % 63) + j) is.pages_are
            ∙ ap (λ (i : ℕ). 512 * slice_index pages i + 8 * (n % 63) + j) e in
            omega (arith, p, e)

    -- the pages before are other ones
    before_apart : (g : Geometry) → IsPaged g log → (a v : ℕ) → BodyTo log k a v → IsInPage page a → ⊥
    before_apart g paged a v body here =
        let long : length log.pages ≡ length pages = ap length is.pages_are in
        let was = page_there log body.page a v body.says in
        let same : slice_index log.pages body.page ≡ slice_index log.pages k =
        one_page (slice_index log.pages body.page) page a was here ∙ ap (λ (ps : List ℕ). slice_index ps k) (sym is.pages_are) in
        let e = paged.apart body.page k (omega (arith, body.lt, lt, long)) (omega (arith, lt, long)) same in
        omega (arith, e, body.lt)
      where
        one_page : (p q a : ℕ) → IsInPage p a → IsInPage q a → p ≡ q
        one_page p q a in_p in_q = omega (arith, in_p.0, in_p.1, in_q.0, in_q.1)

  -- the calls, from s on: the slots, the link, the fence
  module _ (who : ℕ) (s t u w : State) (slots_only : StoresOnly (IsSlotWord page (last - 63 * k)) s t)
      (link_only : StoresOnly (IsLinkWord pages k) t u) (fence_only : StoresOnly Nowhere u w) where
    stored_only : StoresOnly IsStored s w
    stored_only = stores_only-then IsStored s u w
        (stores_only-then IsStored s t u
        (stores_only-weaken (IsSlotWord page (last - 63 * k)) IsStored s t (λ a slot. inl slot) slots_only)
        (stores_only-weaken (IsLinkWord pages k) IsStored t u (λ a link. inr link) link_only))
        (stores_only-weaken Nowhere IsStored u w (λ a no. absurd no) fence_only)

    pub page_only : StoresOnly (IsInPage page) s w
    page_only = stores_only-weaken IsStored (IsInPage page) s w stored_there stored_only

    pub page_kept : KeepsFlushed Anyone (IsSlotWord page (last - 63 * k)) s t → KeepsFlushed Anyone (IsLinkWord pages k) t u
        → KeepsFlushed (Others who) Nowhere u w → KeepsFlushed (Others who) (IsInPage page) s w
    page_kept slots_keep link_keeps fence_keeps = keeps-then (Others who) (IsInPage page) s u w
        (keeps-then (Others who) (IsInPage page) s t u
        (keeps-weaken Anyone (Others who) (IsSlotWord page (last - 63 * k)) (IsInPage page) s t (λ q other. tt) (λ a slot. stored_there a (inl slot))
        slots_keep)
        (keeps-weaken Anyone (Others who) (IsLinkWord pages k) (IsInPage page) t u (λ q other. tt) (λ a link. stored_there a (inr link)) link_keeps))
        (keeps-weaken (Others who) (Others who) Nowhere (IsInPage page) u w (λ q other. other) (λ a no. absurd no) fence_keeps)

    pub page_settles : FlushesAll who s t → FlushesAll who t u → SettlesAll who u w → SettlesAll who s w
    page_settles one two settles = flushes-settle who s u w (flushes-then who s t u one two) settles

    module _ (all : (n : ℕ) → n < 63 * k + 63 → n < length slots → n < last) where
      pub body_only : StoresPage pages slots k s w
      body_only log is = stores_only-weaken IsStored (Said (PageSays log k)) s w (stored_said log is all) stored_only

      pub disks_still : Agree w.now w.past → DisksStandStill pages slots s w
      disks_still agree d ino log is may long stands =
          body_stores d ino log may s w
          (stores_only-weaken (Said (PageSays log k)) (Said (BodySays log)) s w
          (λ a said. record { value = said.value; told = page_in_body log k a said.value said.told }) (body_only log is))
          stands agree (stored_only.words ∙ long)

      module _ (slots_ready : IsReady who (SlotsSay page slots (63 * k) last) t) (link_keeps : KeepsFlushed Anyone (IsLinkWord pages k) t u)
          (link_ready : IsReady who (LinkSays pages k) u) where
        fresh_ready : IsReady who Fresh u
        fresh_ready = ready-both who u (SlotsSay page slots (63 * k) last) (LinkSays pages k)
            (ready-stores Anyone (IsLinkWord pages k) who t u (SlotsSay page slots (63 * k) last) link_only link_keeps tt slots_apart slots_ready)
            link_ready

        pub adds_page : Settles who u w → AddsPage pages slots k s w
        adds_page settles g log is paged stands = record {
          within = λ a v body. ⊎_elim (λ (old : BodyTo log k a v). earlier.within a v old) (λ (new : PageSays log k a v). now.within a v new)
              (cases a v body);
          reads = λ a v body. ⊎_elim (λ (old : BodyTo log k a v). earlier.reads a v old) (λ (new : PageSays log k a v). now.reads a v new)
              (cases a v body);
          settled = λ a v body. ⊎_elim (λ (old : BodyTo log k a v). earlier.settled a v old) (λ (new : PageSays log k a v). now.settled a v new)
              (cases a v body);
        }
          where
            earlier : Stands (BodyTo log k) w
            earlier = stands-stores (IsInPage page) s w page_only (BodyTo log k) (before_apart log is all g paged) stands

            now : Stands (PageSays log k) w
            now = stands-weaken w Fresh (PageSays log k) (fresh_is log is all)
                (ready-settles Nowhere who u w Fresh fence_only settles (λ a v told no. no) fresh_ready)

            cases : (a v : ℕ) → BodyTo log (k + 1) a v → BodyTo log k a v ⊎ PageSays log k a v
            cases a v body = elim (cases_eq body.page k) [
              | inl e ↦ inr (subst (λ (p : ℕ). PageSays log p a v) e body.says)
              | inr ne ↦ inl (record { page = body.page; lt = omega (arith, body.lt, ne); says = body.says })
            ]
