-- What is read of words.
use Rattle.std.proofs.Common.{◌≡◌, ◌⊎◌, ◌∙◌, ap, ℕ, Bool, true, false, List, [], ◌∷◌, Some, None, Option, inl, inr, refl, subst}
use Rattle.std.specs.Prelude.{if◌then◌else◌, option_and_then, nat_le, ◌&&◌, ok_or, IfOk, Result, Err}
use Rattle.std.specs.Str.Parse.{digits_value, without_leading_plus}
use Rattle.std.proofs.lemmas.Bool.{leb-true}
use Rattle.clap.specs.Walk.{Row, Text, one_of, rows_of}
use Rattle.clap.specs.Simple.{App, HasMatchesOf, matches_of}
use Rattle.clap.specs.Faults.{fault_of, is_simple_and_free}
use Rattle.clap.specs.Kinds.{HasKind, IsAmong, Kinds}
use Rattle.clap.specs.Matches.{first_value, found_of}
use Rattle.clap.specs.Values.{kind_of}
use Rattle.clap.specs.declared.error.Error.{Error}
use Rattle.clap.specs.declared.error.kind.ErrorKind.TheVariants.{OutOfMemory}
use Rattle.clap.specs.declared.parser.matches.ArgMatches.{ArgMatches}
use Rattle.clap.specs.declared.parser.matches.Found.{Found}
use Rattle.clap.proofs.WalkLemmas.{both, first_value-rows}
use Rattle.mkbtt_words.specs.Command.{NumberOption, budget, command, number, workers}
use Rattle.mkbtt_words.specs.Reading.{AreRead, AreWithin, IsWithin, if_within, named_in, number_in, together, where_faultless, words_in, words_read}
use Rattle.mkbtt_words.specs.declared.format.Format.{Format}
use Rattle.mkbtt_words.specs.declared.mode.Mode.{Mode}
use Rattle.mkbtt_words.specs.declared.selection.Selection.{Selection}
use Rattle.mkbtt_words.specs.declared.words.Words.{Words}
use Rattle.mkbtt_words.specs.declared.fault.WordsFault.{WordsFault}
use Rattle.mkbtt_words.specs.declared.fault.WordsFault.TheVariants.{Refused}
use Rattle.mkbtt_words.proofs.Commands.{simple_command}

pub either_of : {X : Type 0} (o : Option X) → ((x : X) × (o ≡ Some x)) ⊎ (o ≡ None)
either_of (Some x) = inl (x, refl)
either_of None = inr refl

-- what a test lets through passes it
passed : {X : Type 0} (b : Bool) (o : Option X) (x : X) → (if b then o else None) ≡ Some x → (b ≡ true) × (o ≡ Some x)
passed true o x e = (refl, e)
passed false o x e = cc

faultless : (ks : Kinds) (o : Option Words) (w : Words) → where_faultless ks o ≡ Some w → o ≡ Some w
faultless [] o w e = e
faultless (k ∷ ks) o w e = cc

value_within : (o : NumberOption) (n k : ℕ) → if_within o n ≡ Some k → IsWithin o k
value_within o n k e =
    let tested = passed (nat_le o.low n && nat_le n o.high) (Some n) k e in
    let same : n ≡ k = cc (tested.1) in
    let halves = both _ _ tested.0 in
    subst (IsWithin o) same (leb-true o.low n halves.0, leb-true n o.high halves.1)

-- a number that is read lies within the bounds of its option
number_within : (o : NumberOption) (rows : List Row) (k : ℕ) → number_in o rows ≡ Some k → IsWithin o k
number_within o rows k = go (one_of o.name rows)
  where
    go : (text : Option Text) → option_and_then (λ t. if_within o (digits_value 10 (without_leading_plus t))) text ≡ Some k → IsWithin o k
    go None e = cc
    go (Some t) e = value_within o (digits_value 10 (without_leading_plus t)) k e

-- what is together was there
numbers_of : (m : Option Mode) (n k l : Option ℕ) (f : Option Format) (s : Option Selection) (w : Words) → together m n k l f s ≡ Some w
    → (n ≡ Some w.workers) × (k ≡ Some w.budget) × (l ≡ Some w.number)
numbers_of (Some m) (Some n) (Some k) (Some l) (Some f) (Some s) w e =
    let same : record { mode = m; workers = n; budget = k; number = l; format = f; selection = s } ≡ w = cc in
    (ap (λ (v : Words). Some v.workers) same, ap (λ (v : Words). Some v.budget) same, ap (λ (v : Words). Some v.number) same)
numbers_of None n k l f s w e = cc
numbers_of (Some m) None k l f s w e = cc
numbers_of (Some m) (Some n) None l f s w e = cc
numbers_of (Some m) (Some n) (Some k) None f s w e = cc
numbers_of (Some m) (Some n) (Some k) (Some l) None s w e = cc
numbers_of (Some m) (Some n) (Some k) (Some l) (Some f) None w e = cc

-- the numbers of what is read of words lie within their bounds
pub read_within : (words : List Text) (w : Words) → AreRead words w → AreWithin w
unfolding words_read
read_within words w e =
    let rows : List Row = matches_of command words in
    let held = faultless (fault_of command words) (words_in rows) w e in
    let got = numbers_of _ (number_in workers rows) (number_in budget rows) (number_in number rows) _ _ w held in
    record {
      workers_within = number_within workers rows w.workers got.0;
      budget_within = number_within budget rows w.budget got.1;
      number_within = number_within number rows w.number got.2;
    }

-- ---- as the program reads them

-- words in which no fault is found are read as the matches hold them
pub read_found : (words : List Text) (rows : List Row) → fault_of command words ≡ [] → rows ≡ matches_of command words → words_read words ≡ words_in rows
unfolding words_read
read_found words rows none e = rw (none, e) refl

-- words with a fault aren't
pub faulty_unread : (words : List Text) → (fault_of command words ≡ [] → ⊥) → words_read words ≡ None
unfolding words_read
faulty_unread words some = go (fault_of command words) some
  where
    go : (ks : Kinds) → (ks ≡ [] → ⊥) → where_faultless ks (words_in (matches_of command words)) ≡ None
    go [] some = absurd (some refl)
    go (k ∷ ks) some = refl

-- where a getter finds no text no value is named, and else the value of its text
pub nothing_named : {X : Type 0} (value_of : Text → Option X) (f : Found) (id : Text) → None ≡ first_value f id → None ≡ named_in value_of id (rows_of f)
nothing_named value_of f id e = ap (option_and_then value_of) (e ∙ first_value-rows f id)

pub value_named : {X : Type 0} (value_of : Text → Option X) (f : Found) (id text : Text) → Some text ≡ first_value f id → value_of text ≡ named_in value_of id (rows_of f)
value_named value_of f id text e = ap (option_and_then value_of) (e ∙ first_value-rows f id)

-- the command of the program on these words
module _ (app : App) (is : app ≡ command) (words : List Text) where
  abbrev free : is_simple_and_free app ≡ true
  free = ap is_simple_and_free is ∙ simple_command

  -- what a parse that succeeds leads to
  pub parsed_read : (m : ArgMatches) → (is_simple_and_free app ≡ true → fault_of app words ≡ []) → HasMatchesOf app words m → words_read words ≡ words_in (rows_of (found_of m))
  parsed_read m kinds matches =
      let rows = (matches (both _ _ free).0).0 in
      read_found words (rows_of (found_of m)) (subst (λ (a : App). fault_of a words ≡ []) is (kinds free)) (rows ∙ ap (λ (a : App). matches_of a words) is)

  -- what a parse that fails leads to
  pub failed_unread : (e : Error) → (is_simple_and_free app ≡ true → HasKind (fault_of app words) e) → (kind_of e ≡ OutOfMemory → ⊥) → words_read words ≡ None
  failed_unread e kinds no_want = faulty_unread words (λ none. elim (kinds free) [
    | inl want ↦ no_want want
    | inr among ↦ subst (IsAmong (kind_of e)) (ap (λ (a : App). fault_of a words) is ∙ none) among
  ])

-- what the reader answers for what is read
pub read_or : (words : List Text) (o : Option Words) (r : Result Words WordsFault) → words_read words ≡ o → r ≡ ok_or o Refused → IfOk r (AreRead words)
read_or words (Some w) r e is = rw is e
read_or words None r e is = rw is tt

pub refused_or : (words : List Text) (o : Option Words) (r : Result Words WordsFault) → words_read words ≡ o → r ≡ ok_or o Refused → r ≡ Err Refused → words_read words ≡ None
refused_or words (Some w) r e is refused = cc
refused_or words None r e is refused = e
