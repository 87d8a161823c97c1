-- What lines of each form can say.
use Rattle.std.proofs.Common.{◌≡◌, ◌≢◌, ℕ, Bool, true, false, cond, eqb, nat_le, ◌&&◌, List, [], ◌∷◌, Option, Some, None, refl}
use Rattle.std.specs.Option.{IfSome}
use Rattle.std.proofs.lemmas.Bool.{cond_both}
use Rattle.dn_script.specs.declared.line.JobForm.{JobForm}
use Rattle.dn_script.specs.declared.line.JobForm.TheVariants.{Apply, Replay, Run}
use Rattle.dn_script.specs.declared.line.Keyword.{Keyword}
use Rattle.dn_script.specs.declared.line.Keyword.TheVariants as keyword
use Rattle.dn_script.specs.declared.line.LineMeaning.{LineMeaning}
use Rattle.dn_script.specs.declared.line.LineMeaning.TheVariants.{Skip, Do, Count, Client, Turns, Bad}
use Rattle.dn_script.specs.Text.{words, one_of, two_of, three_of, four_of, number_of, hex_of, byte_of, name_of}
use Rattle.dn_script.specs.Line.{
  ◌>>=◌,
  keyword_of,
  has,
  create_of,
  write_of,
  fill_of,
  read_of,
  cut_of,
  remove_of,
  rename_of,
  size_of,
  list_of,
  client_of,
  numbers_of,
  turns_of,
  count_of,
  after_keyword,
  command_of,
  or_bad,
  meaning_of,
}

-- what a form allows: clients but in `apply`, turns in `replay`
abbrev pub Allows : JobForm → LineMeaning → Type 0
Allows form Skip = Unit {0}
Allows form (Do op weight) = Unit {0}
Allows form (Count slot) = Unit {0}
Allows form (Client n) = form ≢ Apply
Allows form (Turns ns) = form ≡ Replay
Allows form Bad = Unit {0}

if_bind : {A : Type 0} (P : LineMeaning → Type 0) (o : Option A) (f : A → Option LineMeaning) → ((x : A) → IfSome (f x) P) → IfSome (o >>= f) P
if_bind P None f h = tt
if_bind P (Some x) f h = h x

if_guard : (P : LineMeaning → Type 0) (t : Bool) (o : Option LineMeaning) → IfSome o P → IfSome (cond t o None) P
if_guard P true o h = h
if_guard P false o h = tt

create_allowed : (form : JobForm) (ws : List (List ℕ)) → IfSome (create_of ws) (Allows form)
create_allowed form ws = if_bind (Allows form) (one_of ws) _ (λ word. if_bind (Allows form) (name_of word) _ (λ name. tt))

write_allowed : (form : JobForm) (ws : List (List ℕ)) → IfSome (write_of ws) (Allows form)
write_allowed form ws =
    if_bind (Allows form) (three_of ws) _ (λ w. if_bind (Allows form) (name_of w.0) _ (λ name. if_bind (Allows form) (number_of w.1) _ (λ at.
    if_bind (Allows form) (hex_of w.2) _ (λ bytes. tt))))

fill_allowed : (form : JobForm) (ws : List (List ℕ)) → IfSome (fill_of ws) (Allows form)
fill_allowed form ws =
    if_bind (Allows form) (four_of ws) _ (λ w. if_bind (Allows form) (name_of w.0) _ (λ name. if_bind (Allows form) (number_of w.1) _ (λ at.
    if_bind (Allows form) (number_of w.2) _ (λ count. if_bind (Allows form) (byte_of w.3) _ (λ byte. if_guard (Allows form) (nat_le count 131072) _
    tt)))))

read_allowed : (form : JobForm) (ws : List (List ℕ)) → IfSome (read_of ws) (Allows form)
read_allowed form ws =
    if_bind (Allows form) (three_of ws) _ (λ w. if_bind (Allows form) (name_of w.0) _ (λ name. if_bind (Allows form) (number_of w.1) _ (λ at.
    if_bind (Allows form) (number_of w.2) _ (λ count. tt))))

cut_allowed : (form : JobForm) (ws : List (List ℕ)) → IfSome (cut_of ws) (Allows form)
cut_allowed form ws =
    if_bind (Allows form) (two_of ws) _ (λ w. if_bind (Allows form) (name_of w.0) _ (λ name. if_bind (Allows form) (number_of w.1) _ (λ size. tt)))

remove_allowed : (form : JobForm) (ws : List (List ℕ)) → IfSome (remove_of ws) (Allows form)
remove_allowed form ws = if_bind (Allows form) (one_of ws) _ (λ word. if_bind (Allows form) (name_of word) _ (λ name. tt))

rename_allowed : (form : JobForm) (ws : List (List ℕ)) → IfSome (rename_of ws) (Allows form)
rename_allowed form ws =
    if_bind (Allows form) (two_of ws) _ (λ w. if_bind (Allows form) (name_of w.0) _ (λ from. if_bind (Allows form) (name_of w.1) _ (λ to. tt)))

size_allowed : (form : JobForm) (ws : List (List ℕ)) → IfSome (size_of ws) (Allows form)
size_allowed form ws = if_bind (Allows form) (one_of ws) _ (λ word. if_bind (Allows form) (name_of word) _ (λ name. tt))

list_allowed : (form : JobForm) (ws : List (List ℕ)) → IfSome (list_of ws) (Allows form)
list_allowed form [] = tt
list_allowed form (w ∷ ws) = tt

client_allowed : (form : JobForm) (ws : List (List ℕ)) → form ≢ Apply → IfSome (client_of ws) (Allows form)
client_allowed form ws ne =
    if_bind (Allows form) (one_of ws) _ (λ word. if_bind (Allows form) (number_of word) _ (λ n. if_guard (Allows form) (nat_le 1 n && nat_le n 14) _
    ne))

turns_allowed : (form : JobForm) (ws : List (List ℕ)) → form ≡ Replay → IfSome (turns_of ws) (Allows form)
turns_allowed form [] e = tt
turns_allowed form (w ∷ ws) e = if_bind (Allows form) (numbers_of (w ∷ ws)) _ (λ ns. e)

count_allowed : (form : JobForm) (ws : List (List ℕ)) → IfSome (count_of ws) (Allows form)
count_allowed form ws = if_bind (Allows form) (one_of ws) _ (λ word. if_bind (Allows form) (number_of word) _ (λ slot. tt))

-- a command that a form has
keyword_allowed : (form : JobForm) (word : Keyword) (ws : List (List ℕ)) → IfSome (cond (has form word) (after_keyword word ws) None) (Allows form)
keyword_allowed form keyword.Create ws = if_guard (Allows form) (has form keyword.Create) _ (create_allowed form ws)
keyword_allowed form keyword.Write ws = if_guard (Allows form) (has form keyword.Write) _ (write_allowed form ws)
keyword_allowed form keyword.Fill ws = if_guard (Allows form) (has form keyword.Fill) _ (fill_allowed form ws)
keyword_allowed form keyword.Read ws = if_guard (Allows form) (has form keyword.Read) _ (read_allowed form ws)
keyword_allowed form keyword.Cut ws = if_guard (Allows form) (has form keyword.Cut) _ (cut_allowed form ws)
keyword_allowed form keyword.Remove ws = if_guard (Allows form) (has form keyword.Remove) _ (remove_allowed form ws)
keyword_allowed form keyword.Rename ws = if_guard (Allows form) (has form keyword.Rename) _ (rename_allowed form ws)
keyword_allowed form keyword.Size ws = if_guard (Allows form) (has form keyword.Size) _ (size_allowed form ws)
keyword_allowed form keyword.List ws = if_guard (Allows form) (has form keyword.List) _ (list_allowed form ws)
keyword_allowed Apply keyword.Client ws = tt
keyword_allowed Replay keyword.Client ws = client_allowed Replay ws (λ e. cc)
keyword_allowed Run keyword.Client ws = client_allowed Run ws (λ e. cc)
keyword_allowed Apply keyword.Turns ws = tt
keyword_allowed Replay keyword.Turns ws = turns_allowed Replay ws refl
keyword_allowed Run keyword.Turns ws = tt
keyword_allowed form keyword.Count ws = if_guard (Allows form) (has form keyword.Count) _ (count_allowed form ws)

command_allowed : (form : JobForm) (ws : List (List ℕ)) → IfSome (command_of form ws) (Allows form)
command_allowed form [] = tt
command_allowed form (first ∷ ws) = if_bind (Allows form) (keyword_of first) _ (λ word. keyword_allowed form word ws)

or_bad_allowed : (form : JobForm) (o : Option LineMeaning) → IfSome o (Allows form) → Allows form (or_bad o)
or_bad_allowed form None h = tt
or_bad_allowed form (Some m) h = h

pub meaning_allowed : (form : JobForm) (line : List ℕ) → Allows form (meaning_of form line)
meaning_allowed form [] = tt
meaning_allowed form (c ∷ cs) =
    cond_both (eqb c 35) Skip (or_bad (command_of form (words (c ∷ cs)))) (Allows form) (λ _. tt)
    (λ _. or_bad_allowed form (command_of form (words (c ∷ cs))) (command_allowed form (words (c ∷ cs))))
