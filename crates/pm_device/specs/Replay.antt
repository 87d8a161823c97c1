-- What the calls of a record make of one word, counted in places: place n of a word is its value
-- after n stores.
use Rattle.std.specs.Prelude.{
  ◌≡◌,
  ℕ,
  ◌+◌,
  ◌-◌,
  ◌*◌,
  ◌<◌,
  ◌==◌,
  if◌then◌else◌,
  Bool,
  false,
  ◌&&◌,
  nat_lt,
  List,
  [],
  ◌∷◌,
  length,
  slice_index,
}
use Rattle.pm_device.specs.Past.{covers}
use Rattle.pm_device.specs.declared.entry.Entry.{Entry}
use Rattle.pm_device.specs.declared.entry.Entry.TheVariants.{
  Ran,
  Flushed as FlushedEntry,
  Fenced as FencedEntry,
}

-- whether an actor's next fence succeeds, where this entry comes before others after which it is
-- `next`
abbrev pub fenced_by : ℕ → Entry → Bool → Bool
fenced_by who (Ran at from len) next = next
fenced_by who (FlushedEntry q first lines) next = next
fenced_by who (FencedEntry q ok) next = if q == who then ok else next

-- the next fence of this actor is among these entries and succeeds
abbrev pub is_fenced : ℕ → List Entry → Bool
is_fenced who [] = false
is_fenced who (e ∷ es) = fenced_by who e (is_fenced who es)

-- the entry is a flush by one of these actors
abbrev pub is_flush_by : (ℕ → Bool) → Entry → Bool
is_flush_by actors (Ran at from len) = false
is_flush_by actors (FlushedEntry who first lines) = actors who
is_flush_by actors (FencedEntry who ok) = false

-- of each entry, whether it is a flush that a later one of the entries makes durable
abbrev pub fenced_flushes : List Entry → List Bool
fenced_flushes [] = []
fenced_flushes (e ∷ es) = is_flush_by (λ who. is_fenced who es) e ∷ fenced_flushes es

-- the place of word a's last value, where it was n before the entry
abbrev pub last_after : (a n : ℕ) → Entry → ℕ
last_after a n (Ran at from len) = if covers at len a then n + 1 else n
last_after a n (FlushedEntry who first lines) = n
last_after a n (FencedEntry who ok) = n

-- the first place that a crash may leave in the end, where it was d before the entry
abbrev pub durable_after : (a n d : ℕ) → Entry → Bool → ℕ
durable_after a n d (Ran at from len) fenced = d
durable_after a n d (FlushedEntry who first lines) fenced = if fenced && covers (8 * first)
    (8 * lines) a then n else d
durable_after a n d (FencedEntry who ok) fenced = d

abbrev pub last_place : (a n : ℕ) → List Entry → ℕ
last_place a n [] = n
last_place a n (e ∷ es) = last_place a (last_after a n e) es

abbrev pub durable_place : (a n d : ℕ) → List Entry → ℕ
durable_place a n d [] = d
durable_place a n d (e ∷ es) = durable_place a (last_after a n e)
    (durable_after a n d e (is_flush_by (λ who. is_fenced who es) e)) es

-- the entry is one of the first n stores to word a that are still to come
abbrev pub is_applied : (a n : ℕ) → Entry → Bool
is_applied a n (Ran at from len) = covers at len a && nat_lt 0 n
is_applied a n (FlushedEntry who first lines) = false
is_applied a n (FencedEntry who ok) = false

-- the value that an entry stores to word a
abbrev pub value_in : List ℕ → ℕ → Entry → ℕ
value_in kept a (Ran at from len) = slice_index kept (from + (a - at))
value_in kept a (FlushedEntry who first lines) = 0
value_in kept a (FencedEntry who ok) = 0

-- word a, which was v, after n stores to it more
abbrev pub value_after : List ℕ → (a v n : ℕ) → List Entry → ℕ
value_after kept a v n [] = v
value_after kept a v n (e ∷ es) = value_after kept a
    (if is_applied a n e then value_in kept a e else v) (if is_applied a n e then n - 1 else n) es

-- the places of all words after these entries
pub record IsReplay (words : ℕ) (entries : List Entry) (last durable : List ℕ) : Type 0 where
  pub lasts : length last ≡ words
  pub durables : length durable ≡ words
  pub last_each : (a : ℕ) → a < words → slice_index last a ≡ last_place a 0 entries
  pub durable_each : (a : ℕ) → a < words → slice_index durable a ≡ durable_place a 0 0 entries
