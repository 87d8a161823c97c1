-- What a command of required arguments makes of words: it takes exactly as many as it has arguments.
use Rattle.std.proofs.Common.{◌≡◌, ◌∙◌, ℕ, suc, List, [], ◌∷◌, length, codes, true, false, Option, Some, None, refl, sym, ap, ap₂, subst, arith, is_some, IfSome, IfNone}
use Rattle.dn_script.specs.Text.{one_of, two_of}
use Rattle.denova_words.specs.Words.{has_none}
use Rattle.denova_words.specs.Parses.{value_line, required_rule, both_of, Parses, IsUnfit}
use Rattle.clap.specs.Words.{App, Text, IsAmong, fault_of, first_of, first_value, found_of, is_simple, is_simple_and_free, matches_of, new_app, with_rule}
use Rattle.clap.specs.declared.ArgMatches.{ArgMatches}
use Rattle.clap.specs.declared.error.ErrorKind.{ErrorKind}
use Rattle.clap.specs.declared.error.ErrorKind.TheVariants.{MissingRequiredArgument, UnknownArgument}
use Rattle.clap.proofs.OnLiterals.{clap_on_literals}
use Rattle.clap.proofs.WalkLemmas.{first_value-rows}

-- the commands
abbrev pub none_app : App
none_app = new_app (codes "denova")

abbrev pub one_app : App
one_app = with_rule none_app (required_rule (codes "first"))

abbrev pub two_app : App
two_app = with_rule one_app (required_rule (codes "second"))

-- some kinds aren't none
some_kinds : (k : ErrorKind) (ks : List ErrorKind) → k ∷ ks ≡ [] → ⊥
some_kinds k ks e = let bad : suc (length ks) ≡ 0 = ap length e in omega arith

none_fits : fault_of none_app (value_line []) ≡ []
unfolding clap_on_literals
none_fits = refl

none_exceeds : (a : Text) (ws : List Text) → fault_of none_app (value_line (a ∷ ws)) ≡ UnknownArgument ∷ []
unfolding clap_on_literals
none_exceeds a ws = refl

one_lacks : fault_of one_app (value_line []) ≡ MissingRequiredArgument ∷ []
unfolding clap_on_literals
one_lacks = refl

one_fits : (a : Text) → fault_of one_app (value_line (a ∷ [])) ≡ []
unfolding clap_on_literals
one_fits a = refl

one_exceeds : (a b : Text) (ws : List Text) → fault_of one_app (value_line (a ∷ b ∷ ws)) ≡ UnknownArgument ∷ []
unfolding clap_on_literals
one_exceeds a b ws = refl

one_found : (a : Text) → first_of (codes "first") (matches_of one_app (value_line (a ∷ []))) ≡ Some a
unfolding clap_on_literals
one_found a = refl

two_lack : fault_of two_app (value_line []) ≡ MissingRequiredArgument ∷ []
unfolding clap_on_literals
two_lack = refl

two_lack_one : (a : Text) → fault_of two_app (value_line (a ∷ [])) ≡ MissingRequiredArgument ∷ []
unfolding clap_on_literals
two_lack_one a = refl

two_fit : (a b : Text) → fault_of two_app (value_line (a ∷ b ∷ [])) ≡ []
unfolding clap_on_literals
two_fit a b = refl

two_exceed : (a b d : Text) (ws : List Text) → fault_of two_app (value_line (a ∷ b ∷ d ∷ ws)) ≡ UnknownArgument ∷ []
unfolding clap_on_literals
two_exceed a b d ws = refl

first_found : (a b : Text) → first_of (codes "first") (matches_of two_app (value_line (a ∷ b ∷ []))) ≡ Some a
unfolding clap_on_literals
first_found a b = refl

second_found : (a b : Text) → first_of (codes "second") (matches_of two_app (value_line (a ∷ b ∷ []))) ≡ Some b
unfolding clap_on_literals
second_found a b = refl

-- what a command takes fits, and what it doesn't take doesn't
pub none_told : (ws : List Text) → fault_of none_app (value_line ws) ≡ [] → has_none ws ≡ true
none_told [] fits = refl
none_told (a ∷ ws) fits = absurd (some_kinds _ _ (sym (none_exceeds a ws) ∙ fits))

pub none_refused : (ws : List Text) (k : ErrorKind) → IsAmong k (fault_of none_app (value_line ws)) → has_none ws ≡ false
none_refused [] k among = absurd (subst (IsAmong k) none_fits among)
none_refused (a ∷ ws) k among = refl

pub one_told : (ws : List Text) → fault_of one_app (value_line ws) ≡ [] → first_of (codes "first") (matches_of one_app (value_line ws)) ≡ one_of ws
one_told [] fits = absurd (some_kinds _ _ (sym one_lacks ∙ fits))
one_told (a ∷ []) fits = one_found a
one_told (a ∷ b ∷ ws) fits = absurd (some_kinds _ _ (sym (one_exceeds a b ws) ∙ fits))

pub one_refused : (ws : List Text) (k : ErrorKind) → IsAmong k (fault_of one_app (value_line ws)) → one_of ws ≡ None
one_refused [] k among = refl
one_refused (a ∷ []) k among = absurd (subst (IsAmong k) (one_fits a) among)
one_refused (a ∷ b ∷ ws) k among = refl

pub two_told : (ws : List Text) → fault_of two_app (value_line ws) ≡ []
    → both_of (first_of (codes "first") (matches_of two_app (value_line ws))) (first_of (codes "second") (matches_of two_app (value_line ws))) ≡ two_of ws
two_told [] fits = absurd (some_kinds _ _ (sym two_lack ∙ fits))
two_told (a ∷ []) fits = absurd (some_kinds _ _ (sym (two_lack_one a) ∙ fits))
two_told (a ∷ b ∷ []) fits = rw (first_found a b) (rw (second_found a b) refl)
two_told (a ∷ b ∷ d ∷ ws) fits = absurd (some_kinds _ _ (sym (two_exceed a b d ws) ∙ fits))

pub two_refused : (ws : List Text) (k : ErrorKind) → IsAmong k (fault_of two_app (value_line ws)) → two_of ws ≡ None
two_refused [] k among = refl
two_refused (a ∷ []) k among = refl
two_refused (a ∷ b ∷ []) k among = absurd (subst (IsAmong k) (two_fit a b) among)
two_refused (a ∷ b ∷ d ∷ ws) k among = refl

-- each is simple
pub none_simple : is_simple_and_free none_app ≡ true
none_simple = refl

pub one_simple : is_simple_and_free one_app ≡ true
one_simple = refl

pub two_simple : is_simple_and_free two_app ≡ true
two_simple = refl

-- a command that is one of these, and words that are such a line
module _ (app known : App) (line ws : List Text) (is_app : app ≡ known) (is_line : line ≡ value_line ws) where
  known_parses : (m : ArgMatches) → Parses app line m → Parses known (value_line ws) m
  known_parses m p = subst (λ a. Parses a (value_line ws) m) is_app (subst (λ l. Parses app l m) is_line p)

  known_unfit : IsUnfit app line → IsUnfit known (value_line ws)
  known_unfit u = subst (λ a. IsUnfit a (value_line ws)) is_app (subst (λ l. IsUnfit app l) is_line u)

-- no words
pub none_from : (app : App) (line ws : List Text) (o : Option ArgMatches) → app ≡ none_app → line ≡ value_line ws → IfSome o (Parses app line) → IfNone o (IsUnfit app line)
    → is_some o ≡ has_none ws
none_from app line ws (Some m) is_app is_line some none = sym (none_told ws ((known_parses app none_app line ws is_app is_line m some).fits none_simple))
none_from app line ws None is_app is_line some none =
    let u = known_unfit app none_app line ws is_app is_line none in
    sym (none_refused ws u.kind (u.among none_simple))

-- one word
pub one_from : (app : App) (line ws : List Text) (m : ArgMatches) → app ≡ one_app → line ≡ value_line ws → Parses app line m → first_value (found_of m) (codes "first") ≡ one_of ws
one_from app line ws m is_app is_line p =
    let q = known_parses app one_app line ws is_app is_line m p in
    first_value-rows (found_of m) (codes "first") ∙ ap (first_of (codes "first")) (q.matches refl).0 ∙ one_told ws (q.fits one_simple)

pub one_unfit : (app : App) (line ws : List Text) → app ≡ one_app → line ≡ value_line ws → IsUnfit app line → None ≡ one_of ws
one_unfit app line ws is_app is_line none =
    let u = known_unfit app one_app line ws is_app is_line none in
    sym (one_refused ws u.kind (u.among one_simple))

-- two words
pub two_from : (app : App) (line ws : List Text) (m : ArgMatches) → app ≡ two_app → line ≡ value_line ws → Parses app line m
    → both_of (first_value (found_of m) (codes "first")) (first_value (found_of m) (codes "second")) ≡ two_of ws
two_from app line ws m is_app is_line p =
    let q = known_parses app two_app line ws is_app is_line m p in
    let rows = (q.matches refl).0 in
    ap₂ both_of (first_value-rows (found_of m) (codes "first") ∙ ap (first_of (codes "first")) rows) (first_value-rows (found_of m) (codes "second") ∙ ap (first_of (codes "second")) rows)
    ∙ two_told ws (q.fits two_simple)

pub two_unfit : (app : App) (line ws : List Text) → app ≡ two_app → line ≡ value_line ws → IsUnfit app line → None ≡ two_of ws
two_unfit app line ws is_app is_line none =
    let u = known_unfit app two_app line ws is_app is_line none in
    sym (two_refused ws u.kind (u.among two_simple))
