-- Names with the inodes that they lead to, as a list of files.
use Rattle.std.proofs.Common.{
  ◌≡◌,
  ℕ,
  ◌+◌,
  ◌<◌,
  ◌≤◌,
  List,
  [],
  ◌∷◌,
  ◌++◌,
  length,
  get_or,
  take,
  map,
  refl,
  sym,
  ◌∙◌,
  ap,
  subst,
  Option,
  Some,
  None,
  Result,
  Ok,
  Err,
  OnOk,
  arith,
  append_assoc,
}
use Rattle.std.specs.Prelude.{IsSome, is_some, AllPairs, Contains}
use Rattle.std.specs.List.{flat_map}
use Rattle.std.specs.Ordering.{nat_cmp}
use Rattle.std.specs.Cmp.Lexicographic.{slice_cmp}
use Rattle.std.specs.declared.cmp.Ordering.TheVariants.{Less}
use Rattle.std.specs.FinMap.{get}
use Rattle.std.specs.Option.{option_map}
use Rattle.std.proofs.lemmas.List.{append-nil, length-map, get_or_default, get_or-map, take_all, take_more}
use Rattle.sha1.specs.Sha1.{sha1}
use Rattle.pm_device.specs.State.{State}
use Rattle.file_index.specs.Index.{ListsEntries}
use Rattle.dn_model.specs.Disk.{Disk}
use Rattle.dn_model.specs.Files.{named, bytes, files}
use Rattle.dn_report.specs.Listing.{digest_line, line_of_file, file_line, files_line, ListsFiles}
use Rattle.dn_volume.specs.declared.volume.Parts.{Parts}
use Rattle.dn_volume.specs.Agrees.{IsVolume}

abbrev Entries : Type 0
Entries = List (List ℕ × ℕ)

abbrev name_of : List ℕ × ℕ → List ℕ
name_of e = e.0

pub on_ok_map : {A E : Type 0} (r : Result A E) (P Q : Type 0) → (P → Q) → OnOk r P → OnOk r Q
on_ok_map (Ok x) P Q f h = f h
on_ok_map (Err e) P Q f h = h

-- the texts of what is made of elements
flat_map-map : {X Y : Type 0} (f : Y → List ℕ) (g : X → Y) (xs : List X) → flat_map f (map g xs) ≡ flat_map (λ x. f (g x)) xs
flat_map-map f g [] = refl
flat_map-map f g (x ∷ xs) = ap (λ (t : List ℕ). f (g x) ++ t) (flat_map-map f g xs)

flat_map-push : {X : Type 0} (f : X → List ℕ) (xs : List X) (x : X) → flat_map f (xs ++ x ∷ []) ≡ flat_map f xs ++ f x
flat_map-push f [] x = append-nil (f x)
flat_map-push f (y ∷ xs) x = ap (λ (t : List ℕ). f y ++ t) (flat_map-push f xs x) ∙ sym (append_assoc (f y) (flat_map f xs) (f x))

-- one text more
pub texts_more : {X : Type 0} (f : X → List ℕ) (xs : List X) (i : ℕ) (x : X) (text text' line : List ℕ) → i < length xs → x ≡ get_or xs i x
    → text ≡ flat_map f (take i xs) → text' ≡ text ++ line → line ≡ f x → text' ≡ flat_map f (take (i + 1) xs)
texts_more f xs i x text text' line below is so_far more said =
    more
    ∙ ap (λ (t : List ℕ). t ++ line) so_far
    ∙ ap (λ (t : List ℕ). flat_map f (take i xs) ++ t) (said ∙ ap f is)
    ∙ sym (flat_map-push f (take i xs) (get_or xs i x))
    ∙ ap (flat_map f) (sym (take_more xs i x below))

-- an entry's name leads to its inode
pub entry_leads : {es : Entries} (b : Parts) → ListsEntries b.names.map es → (i : ℕ) (e : List ℕ × ℕ) → i < length es → e ≡ get_or es i e
    → get b.names.map e.0 ≡ Some e.1
entry_leads b lists i e below is = (lists.all e.0 e.1).0 (i, below, sym is)

module _ (d : Disk) (b : Parts) (s : State) (v : IsVolume d b s) where
  pub leads : (name : List ℕ) (ino : ℕ) → get b.names.map name ≡ Some ino → named d name ≡ Some ino
  leads name ino at = sym (v.names.leads name) ∙ at

  -- its line tells the file of the inode
  line_is : (name : List ℕ) (ino : ℕ) → get b.names.map name ≡ Some ino
      → digest_line (length (bytes d ino)) (sha1 (bytes d ino)) name ≡ file_line (files d) name
  line_is name ino at = sym (ap (λ (o : Option ℕ). line_of_file name (option_map (bytes d) o)) (leads name ino at))

  pub line_said : (name : List ℕ) (ino : ℕ) → get b.names.map name ≡ Some ino → (size : ℕ) (digest told : List ℕ) → length (bytes d ino) ≡ size
      → digest ≡ sha1 (bytes d ino) → told ≡ name → digest_line size digest told ≡ file_line (files d) name
  line_said name ino at size digest told long summed same =
      ap (λ (n : ℕ). digest_line n digest told) (sym long)
      ∙ ap (λ (t : List ℕ). digest_line (length (bytes d ino)) t told) summed
      ∙ ap (digest_line (length (bytes d ino)) (sha1 (bytes d ino))) same
      ∙ line_is name ino at

  -- the files by name, and those of no name
  pub file_there : (name : List ℕ) (ino : ℕ) → get b.names.map name ≡ Some ino → Some (bytes d ino) ≡ files d name
  file_there name ino at = sym (ap (option_map (bytes d)) (leads name ino at))

  pub file_gone : (name : List ℕ) → get b.names.map name ≡ None → None ≡ files d name
  file_gone name none = sym (ap (option_map (bytes d)) (sym (v.names.leads name) ∙ none))

  module _ (es : Entries) (lists : ListsEntries b.names.map es) where
    place : (k : ℕ) (name : List ℕ) → k < length es → get_or (map name_of es) k name ≡ (get_or es k (name, 0)).0
    place k name below = get_or-map name_of es k (name, 0) name below

    in_order : AllPairs (λ x y. slice_cmp nat_cmp x y ≡ Less) (map name_of es)
    in_order = λ i j x lt jl.
        let below : j < length es = omega (arith, jl, length-map es name_of) in
        rw (place i x (omega (arith, lt, below)), place j x below) (lists.in_order i j (x, 0) lt below)

    listed : (name : List ℕ) → Contains (map name_of es) name → IsSome (files d name)
    listed name (k, lt, is) =
        let below : k < length es = omega (arith, lt, length-map es name_of) in
        let same : (get_or es k (name, 0)).0 ≡ name = sym (place k name below) ∙ is in
        let ino = (get_or es k (name, 0)).1 in
        let at : get b.names.map name ≡ Some ino = subst (λ (n : List ℕ). get b.names.map n ≡ Some ino) same
        (entry_leads b lists k (get_or es k (name, 0)) below (get_or_default es k (name, 0) (get_or es k (name, 0)) below)) in
        ap (λ (o : Option (List ℕ)). is_some o) (sym (file_there name ino at))

    some_ino : (o : Option ℕ) → IsSome (option_map (bytes d) o) → (ino : ℕ) × (o ≡ Some ino)
    some_ino None some = absurd (cc some)
    some_ino (Some ino) some = (ino, refl)

    found : (name : List ℕ) → IsSome (files d name) → Contains (map name_of es) name
    found name some =
        let at = some_ino (named d name) some in
        let has = (lists.all name at.0).1 (v.names.leads name ∙ at.1) in
        (has.0, omega (arith, has.1, length-map es name_of), get_or-map name_of es has.0 (name, at.0) name has.1 ∙ ap name_of has.2)

    lists_files : (text : List ℕ) → text ≡ flat_map (λ (e : List ℕ × ℕ). file_line (files d) e.0) es ++ files_line (length es)
        → ListsFiles (files d) text
    lists_files text is = record {
      names = map name_of es;
      listing = record { sorted = in_order; files = λ name. (listed name, found name) };
      text_is = is
          ∙ ap (λ (t : List ℕ). t ++ files_line (length es)) (sym (flat_map-map (file_line (files d)) name_of es))
          ∙ ap (λ (n : ℕ). flat_map (file_line (files d)) (map name_of es) ++ files_line n) (sym (length-map es name_of));
    }

    -- and so is the text of all entries with their number behind it
    pub lists_last : (text text' : List ℕ) (i : ℕ) → length es ≤ i → text ≡ flat_map (λ (e : List ℕ × ℕ). file_line (files d) e.0) (take i es)
        → text' ≡ text ++ files_line (length es) → ListsFiles (files d) text'
    lists_last text text' i all so_far last = lists_files text' (
        last
        ∙ ap (λ (t : List ℕ). t ++ files_line (length es)) so_far
        ∙ ap (λ (xs : Entries). flat_map (λ (e : List ℕ × ℕ). file_line (files d) e.0) xs ++ files_line (length es)) (take_all i es all))
