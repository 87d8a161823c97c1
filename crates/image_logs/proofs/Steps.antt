-- The inodes of an image are counted, one after another.
use Rattle.std.proofs.Common.{◌≡◌, ◌≢◌, inl, inr, ℕ, zero, suc, ◌+◌, ◌<◌, ◌≤◌, Bool, true, false, List, length, refl, sym, ◌∙◌, ap, subst, arith}
use Rattle.std.specs.Prelude.{slice_index, None, nat_lt, if◌then◌else◌}
use Rattle.std.specs.FinMap.{get}
use Rattle.std.proofs.lemmas.Bool.{cases_eq, cases_lt}
use Rattle.std.proofs.lemmas.Bool.Decides.{nat_tests}
use Rattle.pm_device.specs.Reading.{Reads}
use Rattle.pm_layout.specs.declared.Geometry.{Geometry}
use Rattle.pm_layout.specs.Geometry.{inode_word}
use Rattle.dn_model.specs.Log.{Log}
use Rattle.dn_model.specs.LogFault.{LogFault}
use Rattle.dn_model.specs.Maps.{mapping}
use Rattle.dn_model.specs.Disk.{Disk, Use, Free, Live, Dying, InodesSay, at_state, at_cut, IsUsed, state_number, maps, maps_by_use}
use Rattle.dn_model.specs.Counts.{total, hit, mappings}
use Rattle.dn_model.specs.Numbers.{file_hit, dying_hit, files_in, dying_in}
use Rattle.dn_model.specs.Files.{named, named_after}
use Rattle.law_write.proofs.Counting.{total-same}
use Rattle.log_walk.specs.Laws.{ReadsAs}
use Rattle.image_logs.specs.declared.logs.LogsRead.{LogsRead}
use Rattle.image_logs.specs.declared.logs.LogsFault.{LogsFault}
use Rattle.image_logs.specs.declared.logs.LogsFault.TheVariants.{BadLog, NoMemory}
use Rattle.image_logs.specs.Logs.{
  IsInUse,
  IsSaid,
  log_page,
  log_hit,
  logs_with,
  AreCounted,
  AreRead,
  IsFirstFault,
  IsFaultOfEach,
  AddsLog,
  HasRoom,
  IsOneFault,
  IsEnd,
  CountsUse,
  AddsInode,
  adds_none,
  adds_log,
  IsEmptyRead,
}
use Rattle.image_logs.specs.LogsLoop.{IsCountedOf, IsCountedTo}
use Rattle.image_logs.proofs.Hits.{total-next, total-none, total-past}

-- what words say of an inode of the state
module _ (g : Geometry) (c : List ℕ) (d : Disk) (same : d.geometry ≡ g) (reads : Reads (InodesSay d) c) (ino : ℕ) (in_table : ino < g.inodes) where
  in_disk : ino < d.geometry.inodes
  in_disk = omega (arith, in_table, ap (λ (h : Geometry). h.inodes) same)

  pub state_word : slice_index c (inode_word ino 0) ≡ state_number (d.inode ino).use_of
  state_word = reads (inode_word ino 0) (state_number (d.inode ino).use_of) (at_state ino in_disk refl refl)

  pub cut_word : (cut : ℕ) → (d.inode ino).use_of ≡ Dying cut → slice_index c (inode_word ino 3) ≡ cut
  cut_word cut e = reads (inode_word ino 3) cut (at_cut ino cut in_disk e refl refl)

  pub used_from : IsInUse c ino → IsUsed (d.inode ino).use_of
  used_from used = by_use (d.inode ino).use_of state_word
    where
      by_use : (u : Use) → slice_index c (inode_word ino 0) ≡ state_number u → IsUsed u
      by_use Free word = absurd (used word)
      by_use Live word = tt
      by_use (Dying cut) word = tt

  pub used_to : IsUsed (d.inode ino).use_of → IsInUse c ino
  used_to used none = by_use (d.inode ino).use_of used (sym state_word ∙ none)
    where
      by_use : (u : Use) → IsUsed u → state_number u ≡ 0 → ⊥
      by_use Free used word = used
      by_use Live used word = omega arith
      by_use (Dying cut) used word = omega arith

free_use : (u : Use) → state_number u ≡ 0 → u ≡ Free
free_use Free e = refl
free_use Live e = absurd (omega arith)
free_use (Dying cut) e = absurd (omega arith)

file_root : (u : Use) (k : ℕ) → k ≡ 0 → file_hit k u ≡ 0
file_root u zero e = refl
file_root u (suc k) e = absurd (omega arith)

file_live : (k : ℕ) → k ≢ 0 → file_hit k Live ≡ 1
file_live zero ne = absurd (ne refl)
file_live (suc k) ne = refl

file_free : (k : ℕ) → file_hit k Free ≡ 0
file_free zero = refl
file_free (suc k) = refl

file_dying : (k cut : ℕ) → file_hit k (Dying cut) ≡ 0
file_dying zero cut = refl
file_dying (suc k) cut = refl

hits_zero : (p : ℕ) (n : ℕ) → total n (λ idx. hit p None) ≡ 0
unfolding total
hits_zero p zero = refl
hits_zero p (suc n) = omega (arith, hits_zero p n)

module _ (d : Disk) (ino : ℕ) where
  maps_are : (u : Use) → (d.inode ino).use_of ≡ u → (idx : ℕ) → maps d ino idx ≡ maps_by_use u (d.inode ino).log idx
  unfolding maps
  maps_are u e idx = ap (λ (v : Use). maps_by_use v (d.inode ino).log idx) e

  -- the places of a free, of a live and of a dying inode
  free_places : (p : ℕ) → (d.inode ino).use_of ≡ Free → total 4096 (λ idx. hit p (maps d ino idx)) ≡ 0
  free_places p e = total-same (λ idx. hit p None) (λ idx. hit p (maps d ino idx)) 4096 (λ idx lt. ap (hit p) (maps_are Free e idx)) ∙ hits_zero p
      4096

  live_places : (p end : ℕ) → (d.inode ino).use_of ≡ Live → end ≡ 4096 → total 4096 (λ idx. hit p (maps d ino idx)) ≡ total end
      (λ idx. hit p (mapping (d.inode ino).log idx))
  live_places p end e all =
      total-same (λ idx. hit p (mapping (d.inode ino).log idx)) (λ idx. hit p (maps d ino idx)) 4096 (λ idx lt. ap (hit p) (maps_are Live e idx))
      ∙ ap (λ (n : ℕ). total n (λ idx. hit p (mapping (d.inode ino).log idx))) (sym all)

  dying_places : (p end cut : ℕ) → (d.inode ino).use_of ≡ Dying cut → end ≤ 4096 → (cut ≤ 4096 → end ≡ cut) → (4096 ≤ cut → end ≡ 4096)
      → total 4096 (λ idx. hit p (maps d ino idx)) ≡ total end (λ idx. hit p (mapping (d.inode ino).log idx))
  dying_places p end cut e most below past =
      total-past (λ idx. hit p (maps d ino idx)) end 4096 most
      (λ idx low high. ap (hit p) (maps_are (Dying cut) e idx ∙ ap (λ (b : Bool). if b then mapping (d.inode ino).log idx else None)
      (gone idx low high)))
      ∙ total-same (λ idx. hit p (mapping (d.inode ino).log idx)) (λ idx. hit p (maps d ino idx)) end
      (λ idx lt. ap (hit p) (maps_are (Dying cut) e idx ∙ ap (λ (b : Bool). if b then mapping (d.inode ino).log idx else None) (there idx lt)))
    where
      lt_false : (a b : ℕ) → b ≤ a → nat_lt a b ≡ false
      lt_false a b le = grind (arith, nat_tests)

      lt_true : (a b : ℕ) → a < b → nat_lt a b ≡ true
      lt_true a b lt = grind (arith, nat_tests)

      gone : (idx : ℕ) → end ≤ idx → idx < 4096 → nat_lt idx cut ≡ false
      gone idx low high = elim (cases_lt 4096 cut) [
        | inl big ↦ let e : end ≡ 4096 = past (omega arith) in absurd (omega arith)
        | inr le ↦ let e : end ≡ cut = below le in lt_false idx cut (omega arith)
      ]

      there : (idx : ℕ) → idx < end → nat_lt idx cut ≡ true
      there idx lt = elim (cases_lt 4096 cut) [
        | inl big ↦ lt_true idx cut (omega arith)
        | inr le ↦ let e : end ≡ cut = below le in lt_true idx cut (omega arith)
      ]

pub counted-none : (g : Geometry) (c : List ℕ) (read : LogsRead) → IsEmptyRead g read → IsCountedTo g c 0 read
counted-none g c read empty = record {
  long_logs = empty.long_logs;
  long_mapped = empty.long_mapped;
  few_logs = λ p lt. omega (arith, empty.logs p);
  few_mapped = λ p lt. omega (arith, empty.mapped p);
  few_files = omega (arith, empty.files);
  few_dying = omega (arith, empty.dying);
  faultless = λ i place lt. absurd (omega arith);
  counted = λ d said. record {
    in_logs = λ p lt. empty.logs p ∙ sym (total-none (λ ino. log_hit p (d.inode ino).use_of (d.inode ino).log));
    mapped = λ p lt. empty.mapped p ∙ sym (total-none (λ ino. total 4096 (λ idx. hit p (maps d ino idx))));
    files = empty.files ∙ sym (total-none (λ ino. file_hit ino (d.inode ino).use_of));
    dying = empty.dying ∙ sym (total-none (λ ino. dying_hit (d.inode ino).use_of));
    names = λ le. absurd (omega arith);
  };
}

module _ (g : Geometry) (c : List ℕ) (k : ℕ) (old : LogsRead) (so_far : IsCountedTo g c k old) where
  pub has_room : k < 4096 → HasRoom g old
  has_room lt = record {
    long_logs = so_far.long_logs;
    long_mapped = so_far.long_mapped;
    logs = λ p inside. omega (arith, so_far.few_logs p inside);
    mapped = λ p inside. omega (arith, so_far.few_mapped p inside);
  }

  faultless-next : ((place : ℕ) → IsInUse c k → LogFault g c k place → ⊥) → (i place : ℕ) → i < k + 1 → IsInUse c i → LogFault g c i place → ⊥
  faultless-next here i place lt used fault = elim (cases_eq i k) [
    | inl e ↦ here place (subst (IsInUse c) e used) (subst (λ (n : ℕ). LogFault g c n place) e fault)
    | inr ne ↦ so_far.faultless i place (omega arith) used fault
  ]

  module _ (in_table : k < g.inodes) where
    free_more : slice_index c (inode_word k 0) ≡ 0 → IsCountedTo g c (k + 1) old
    free_more free = record {
      long_logs = so_far.long_logs;
      long_mapped = so_far.long_mapped;
      few_logs = λ p lt. omega (arith, so_far.few_logs p lt);
      few_mapped = λ p lt. omega (arith, so_far.few_mapped p lt);
      few_files = omega (arith, so_far.few_files);
      few_dying = omega (arith, so_far.few_dying);
      faultless = faultless-next (λ place used fault. used free);
      counted = λ d said.
          let before = so_far.counted d said in
          let is_free : (d.inode k).use_of ≡ Free = free_use (d.inode k).use_of (sym (state_word g c d said.geometry said.inodes k in_table) ∙ free)
          in
          record {
            in_logs = λ p lt. omega (
              arith,
              before.in_logs p lt,
              total-next (λ ino. log_hit p (d.inode ino).use_of (d.inode ino).log) k,
              ap (λ (u : Use). log_hit p u (d.inode k).log) is_free,
            );
            mapped = λ p lt. omega (
              arith,
              before.mapped p lt,
              total-next (λ ino. total 4096 (λ idx. hit p (maps d ino idx))) k,
              free_places d k p
                  is_free,
            );
            files = omega (arith, before.files, total-next (λ ino. file_hit ino (d.inode ino).use_of) k, ap (file_hit k) is_free, file_free k);
            dying = omega (arith, before.dying, total-next (λ ino. dying_hit (d.inode ino).use_of) k, ap dying_hit is_free);
            names = λ le. elim (cases_eq k 0) [
              | inl at_root ↦ absurd (live_not_free (sym said.root ∙ ap (λ (i : ℕ). (d.inode i).use_of) (sym at_root) ∙ is_free))
              | inr ne ↦ before.names (omega arith)
            ];
          };
    }
      where
        live_not_free : Live ≡ Free → ⊥
        live_not_free e = cc

    module _ (end : ℕ) (mid new : LogsRead) (used : IsInUse c k) (ends : IsEnd (slice_index c (inode_word k 0)) (slice_index c (inode_word k 3)) end)
        (adds : AddsLog g c k end old mid) (counts : CountsUse k (slice_index c (inode_word k 0)) mid new) where
      abbrev state : ℕ
      state = slice_index c (inode_word k 0)

      -- only the two counts of inodes differ
      kept_parts : {X : Type 0} (part : LogsRead → X) → ((r : LogsRead) (n : ℕ) → part (record r { files = n }) ≡ part r)
          → ((r : LogsRead) (n : ℕ) → part (record r { dying = n }) ≡ part r) → part new ≡ part mid
      kept_parts {X = X} part by_files by_dying = elim (cases_eq state 1) [
        | inl live ↦ elim (cases_eq k 0) [
          | inl root ↦ ap part (counts.root live root)
          | inr ne ↦ ap part (counts.file live ne) ∙ by_files mid (mid.files + 1)
        ]
        | inr other ↦ ap part (counts.dying other) ∙ by_dying mid (mid.dying + 1)
      ]

      same_logs : new.in_logs.items ≡ mid.in_logs.items
      same_logs = kept_parts (λ r. r.in_logs.items) (λ r n. refl) (λ r n. refl)

      same_mapped : new.mapped.items ≡ mid.mapped.items
      same_mapped = kept_parts (λ r. r.mapped.items) (λ r n. refl) (λ r n. refl)

      same_names : new.names.map ≡ mid.names.map
      same_names = kept_parts (λ r. r.names.map) (λ r n. refl) (λ r n. refl)

      more_files : new.files ≤ mid.files + 1
      more_files = elim (cases_eq state 1) [
        | inl live ↦ elim (cases_eq k 0) [
          | inl root ↦ omega (arith, ap (λ (r : LogsRead). r.files) (counts.root live root))
          | inr ne ↦ omega (arith, ap (λ (r : LogsRead). r.files) (counts.file live ne))
        ]
        | inr other ↦ omega (arith, ap (λ (r : LogsRead). r.files) (counts.dying other))
      ]

      more_dying : new.dying ≤ mid.dying + 1
      more_dying = elim (cases_eq state 1) [
        | inl live ↦ elim (cases_eq k 0) [
          | inl root ↦ omega (arith, ap (λ (r : LogsRead). r.dying) (counts.root live root))
          | inr ne ↦ omega (arith, ap (λ (r : LogsRead). r.dying) (counts.file live ne))
        ]
        | inr other ↦ omega (arith, ap (λ (r : LogsRead). r.dying) (counts.dying other))
      ]

      at_page : (xs ys : List ℕ) (p : ℕ) → xs ≡ ys → slice_index xs p ≡ slice_index ys p
      at_page xs ys p e = ap (λ (zs : List ℕ). slice_index zs p) e

      module _ (d : Disk) (said : IsSaid g c d) where
        abbrev log : Log
        log = (d.inode k).log

        before : IsCountedOf d k old
        before = so_far.counted d said

        pages_same : (p : ℕ) → p < d.geometry.pages → p < g.pages
        pages_same p lt = omega (arith, lt, ap (λ (h : Geometry). h.pages) said.geometry)

        is_used : IsUsed (d.inode k).use_of
        is_used = used_from g c d said.geometry said.inodes k in_table used

        reads : ReadsAs g c k log
        reads = subst (λ (h : Geometry). ReadsAs h c k log) said.geometry (record {
          reads = λ a v says. said.logs a v (record {
            ino = k;
            in_table = in_disk g c d said.geometry said.inodes k in_table;
            used = is_used;
            says = says;
          });
          valid = said.valid k (in_disk g c d said.geometry said.inodes k in_table) is_used;
        })

        names-next : (name : List ℕ) → get new.names.map name ≡ named d name
        unfolding named
        names-next name = ap (λ m. get m name) same_names ∙ elim (cases_eq k 0) [
          | inl root ↦ at_root root
          | inr ne ↦ ap (λ m. get m name) (adds.same_names ne) ∙ before.names (omega arith) name
        ]
          where
            is_named : named d name ≡ named_after name None (d.inode 0).log.items
            is_named = refl

            at_root : k ≡ 0 → get mid.names.map name ≡ named d name
            at_root root = adds.root_names root (d.inode 0).log (subst (λ (i : ℕ). ReadsAs g c i (d.inode i).log) root reads) name ∙ sym is_named

        one_more : ((p : ℕ) → log_hit p (d.inode k).use_of log ≡ log_page log p)
            → ((p : ℕ) → total 4096 (λ idx. hit p (maps d k idx)) ≡ total end (λ idx. hit p (mapping log idx)))
            → new.files ≡ mid.files + file_hit k (d.inode k).use_of → new.dying ≡ mid.dying + dying_hit (d.inode k).use_of → IsCountedOf d (k + 1) new
        one_more hits places files dying = record {
          in_logs = λ p lt. omega (
            arith,
            at_page new.in_logs.items mid.in_logs.items p same_logs,
            adds.in_logs log reads p (pages_same p lt),
            before.in_logs p lt,
            hits p,
            total-next (λ ino. log_hit p (d.inode ino).use_of (d.inode ino).log) k,
          );
          mapped = λ p lt. omega (
            arith,
            at_page new.mapped.items mid.mapped.items p same_mapped,
            adds.mapped log reads p (pages_same p lt),
            before.mapped p lt,
            places p,
            total-next (λ ino. total 4096 (λ idx. hit p (maps d ino idx))) k,
          );
          files = omega (arith, files, adds.files, before.files, total-next (λ ino. file_hit ino (d.inode ino).use_of) k);
          dying = omega (arith, dying, adds.dying, before.dying, total-next (λ ino. dying_hit (d.inode ino).use_of) k);
          names = λ le. names-next;
        }

        by_use : (u : Use) → (d.inode k).use_of ≡ u → IsCountedOf d (k + 1) new
        by_use Free e = absurd (subst IsUsed e is_used)
        by_use Live e =
            let live : state ≡ 1 = state_word g c d said.geometry said.inodes k in_table ∙ ap state_number e in
            one_more (λ p. ap (λ (u : Use). log_hit p u log) e) (λ p. live_places d k p end e (ends.live live))
            (elim (cases_eq k 0) [
              | inl root ↦ omega (arith, ap (λ (r : LogsRead). r.files) (counts.root live root), file_root (d.inode k).use_of k root)
              | inr ne ↦ omega (arith, ap (λ (r : LogsRead). r.files) (counts.file live ne), ap (file_hit k) e, file_live k ne)
            ])
            (elim (cases_eq k 0) [
              | inl root ↦ omega (arith, ap (λ (r : LogsRead). r.dying) (counts.root live root), ap dying_hit e)
              | inr ne ↦ omega (arith, ap (λ (r : LogsRead). r.dying) (counts.file live ne), ap dying_hit e)
            ])
        by_use (Dying cut) e =
            let two : state ≡ 2 = state_word g c d said.geometry said.inodes k in_table ∙ ap state_number e in
            let other : state ≢ 1 = λ one. omega (arith, one, two) in
            let at_cut_word : slice_index c (inode_word k 3) ≡ cut = cut_word g c d said.geometry said.inodes k in_table cut e in
            one_more (λ p. ap (λ (u : Use). log_hit p u log) e)
            (λ p. dying_places d k p end cut e ends.most (λ le. ends.below other (omega (arith, le, at_cut_word)) ∙ at_cut_word)
            (λ ge. ends.past other (omega (arith, ge, at_cut_word))))
            (omega (arith, ap (λ (r : LogsRead). r.files) (counts.dying other), ap (file_hit k) e, file_dying k cut))
            (omega (arith, ap (λ (r : LogsRead). r.dying) (counts.dying other), ap dying_hit e))

      used_more : IsCountedTo g c (k + 1) new
      used_more = record {
        long_logs = ap length same_logs ∙ adds.long_logs ∙ so_far.long_logs;
        long_mapped = ap length same_mapped ∙ adds.long_mapped ∙ so_far.long_mapped;
        few_logs = λ p lt. omega (arith, at_page new.in_logs.items mid.in_logs.items p same_logs, adds.few_logs p lt, so_far.few_logs p lt);
        few_mapped = λ p lt. omega (arith, at_page new.mapped.items mid.mapped.items p same_mapped, adds.few_mapped p lt, so_far.few_mapped p lt);
        few_files = omega (arith, more_files, adds.files, so_far.few_files);
        few_dying = omega (arith, more_dying, adds.dying, so_far.few_dying);
        faultless = faultless-next (λ place here fault. adds.faultless place fault);
        counted = λ d said. by_use d said (d.inode k).use_of refl;
      }

    pub counted-next : (new : LogsRead) → AddsInode g c k old new → IsCountedTo g c (k + 1) new
    counted-next new (adds_none free same) = subst (IsCountedTo g c (k + 1)) (sym same) (free_more free)
    counted-next new (adds_log end mid used ends adds counts) = used_more end mid new used ends adds counts

    -- a fault of this inode is the first one
    pub first-fault : (fault : LogsFault) → IsOneFault g c k fault → (fault ≢ NoMemory → IsInUse c k) → IsFirstFault g c fault
    first-fault NoMemory is used = tt
    first-fault (BadLog ino place) is used = record {
      in_table = omega (arith, in_table, is.0);
      used = subst (IsInUse c) (sym is.0) (used (λ e. cc));
      fault = subst (λ (i : ℕ). LogFault g c i place) (sym is.0) is.1;
      first = λ i n lt. so_far.faultless i n (omega (arith, lt, is.0));
    }

-- and so it is for each state
pub fault-of_each : (g : Geometry) (c : List ℕ) (fault : LogsFault) → IsFirstFault g c fault → IsFaultOfEach g c fault
fault-of_each g c NoMemory is = tt
fault-of_each g c (BadLog ino place) is = λ d same says. record {
  used = used_from g c d same says ino is.in_table is.used;
  fault = subst (λ (h : Geometry). LogFault h c ino place) (sym same) is.fault;
  least = record {
    below = omega (arith, is.in_table, ap (λ (h : Geometry). h.inodes) same);
    has = (used_from g c d same says ino is.in_table is.used, (place, subst (λ (h : Geometry). LogFault h c ino place) (sym same) is.fault));
    least = λ m lt bad. is.first m bad.1.0 lt (used_to g c d same says m (omega (arith, lt, is.in_table)) bad.0)
        (subst (λ (h : Geometry). LogFault h c m bad.1.0) same bad.1.1);
  };
}

pub all-read : (g : Geometry) (c : List ℕ) (k : ℕ) (read : LogsRead) → k ≡ g.inodes → IsCountedTo g c k read → 8 ≤ g.inodes → AreRead g c read
unfolding logs_with mappings files_in dying_in
all-read g c k read all so_far some = record {
  faultless = λ ino place lt. so_far.faultless ino place (omega (arith, lt, all));
  long_logs = so_far.long_logs;
  long_mapped = so_far.long_mapped;
  counted = λ d said. counted d (so_far.counted d said) (all ∙ ap (λ (h : Geometry). h.inodes) (sym said.geometry));
}
  where
    counted : (d : Disk) → IsCountedOf d k read → k ≡ d.geometry.inodes → AreCounted d read
    counted d is e = by_number (subst (λ (n : ℕ). IsCountedOf d n read) e is)
      where
        by_number : IsCountedOf d d.geometry.inodes read → AreCounted d read
        by_number at = record {
          in_logs = λ p lt. at.in_logs p lt;
          mapped = λ p lt. at.mapped p lt;
          files = at.files;
          dying = at.dying;
          names = at.names (omega (arith, some, all, e));
        }
