-- What a parse of the command that succeeds has found.
use Rattle.std.proofs.Common.{zero, suc, ◌≡◌, ◌⊎◌, ◌∙◌, ◌<◌, ◌≤◌, ◌&&◌, ap, ℕ, Bool, true, false, not, List, [], ◌∷◌, length, map, is_some, Option, Some, None, refl, sym, subst, inl, inr, arith, codes}
use Rattle.std.specs.Prelude.{pos, unwrap_or}
use Rattle.std.specs.List.{list_all, position, slice_index_or}
use Rattle.std.specs.Str.{bytes_eq}
use Rattle.std.specs.Borrow.{Bor}
use Rattle.std.proofs.lemmas.Bool.{eqb-true, not-true}
use Rattle.std.proofs.lemmas.Slice.Eq.{bytes_eq-Decides}
use Rattle.std.proofs.lemmas.List.{get_or-map, nil_from_length}
use Rattle.std.proofs.lemmas.List.Sums.{AllPass-from_list_all}
use Rattle.std.proofs.lemmas.List.{length-map}
use Rattle.clap.specs.Texts.{items_of}
use Rattle.clap.specs.Facts.{args_of, least_values}
use Rattle.clap.specs.Built.{IsPlain, IsPlainArg, IsParsedFrom}
use Rattle.clap.specs.Matches.{matched_of, found_of}
use Rattle.clap.specs.Walk.{Rule, Text, is_empty, is_free_arg, is_simple_arg, rule_of}
use Rattle.clap.specs.Simple.{App, app_of, has_plain_fields}
use Rattle.clap.specs.Faults.{is_simple_and_free}
use Rattle.clap.specs.declared.builder.action.ArgAction.TheVariants.{Set}
use Rattle.clap.specs.declared.builder.arg.Arg.{Arg}
use Rattle.clap.specs.declared.builder.command.Command.{Command}
use Rattle.clap.specs.declared.builder.command.Command.TheViews.{out-Command}
use Rattle.clap.specs.declared.builder.value_parser.ValueParser.{ValueParser}
use Rattle.clap.specs.declared.builder.value_parser.ValueParser.TheVariants as vp
use Rattle.clap.specs.declared.parser.matches.ArgMatches.{ArgMatches}
use Rattle.clap.proofs.CallerLemmas.{default_present, present_has_entry, required_present}
use Rattle.clap.proofs.OnLiterals.{clap_on_literals}
use Rattle.clap.proofs.WalkLemmas.{both}
use Rattle.mkbtt_words.specs.Command.{NumberOption, budget, command, mode_rule, name_rule, number, option_rule, workers}
use Rattle.mkbtt_words.specs.Parsed.{HasNumber}
use Rattle.mkbtt_words.proofs.Entries.{HasText, entry_text, found_in}

-- ---- what a rule says of its argument

empty_list : {X : Type 0} (xs : List X) → is_empty xs ≡ true → xs ≡ []
empty_list xs e = nil_from_length xs (eqb-true (length xs) 0 e)

-- an argument that uses no setting that changes how words are read, and has no rule on another
plain_arg : (a : Arg) → is_simple_arg a ≡ true → is_free_arg a ≡ true → IsPlainArg a × (a.default_vals_ifs.items ≡ []) × (a.val_delim ≡ None)
plain_arg a simple free =
    let overrides = both _ _ simple in
    let ifs = both _ _ overrides.1 in
    let groups = both _ _ ifs.1 in
    let delim = both _ _ groups.1 in
    let exclusive = both _ _ free in
    let conflicts = both _ _ exclusive.1 in (
      (not-true _ exclusive.0, empty_list _ conflicts.0, empty_list _ overrides.0, empty_list _ groups.0),
      empty_list _ ifs.0,
      no_delim a.val_delim (not-true _ delim.0),
    )
  where
    no_delim : (o : Option ℕ) → is_some o ≡ false → o ≡ None
    no_delim None e = refl
    no_delim (Some x) e =
        let bad : true ≡ false = e in
        cc

-- ---- the ids of the command's arguments

abbrev ids : List Text
ids = codes "mode" ∷ codes "workers" ∷ codes "budget" ∷ codes "number" ∷ codes "to" ∷ codes "select" ∷ []

abbrev place : Text → ℕ
place id = unwrap_or (position (λ i. bytes_eq i id) ids) 0

place_at : (j : ℕ) (e : Text) → j < 6 → place (slice_index_or ids j e) ≡ j
place_at zero e lt = refl
place_at (suc zero) e lt = refl
place_at (suc (suc zero)) e lt = refl
place_at (suc (suc (suc zero))) e lt = refl
place_at (suc (suc (suc (suc zero)))) e lt = refl
place_at (suc (suc (suc (suc (suc zero))))) e lt = refl
place_at (suc (suc (suc (suc (suc (suc n)))))) e lt = absurd (omega arith)

-- the id is none that building adds, and not empty
abbrev is_own : Text → Bool
is_own id = not (bytes_eq id []) && (not (bytes_eq id (codes "help")) && not (bytes_eq id (codes "version")))

own_id : (id : Text) → is_own id ≡ true → (id ≡ [] → ⊥) × ((id ≡ codes "help") ⊎ (id ≡ codes "version") → ⊥)
own_id id own = (
  λ e. let bad : false ≡ true = rw e at own in cc,
  λ h. elim h [
    | inl e ↦ let bad : false ≡ true = rw e at own in cc
    | inr e ↦ let bad : false ≡ true = rw e at own in cc
  ],
)

-- the command is one of which the matches and the faults are exact
pub simple_command : is_simple_and_free command ≡ true
unfolding clap_on_literals command
simple_command = refl

abbrev rules : List Rule
rules = mode_rule ∷ option_rule workers ∷ option_rule budget ∷ option_rule number ∷ name_rule (codes "to") (codes "answer") ∷ name_rule (codes "select") (codes "stated") ∷ []

command_rules : command.top.rules ≡ rules
unfolding command
command_rules = refl

command_plain : command.top.is_plain ≡ true
unfolding command
command_plain = refl

command_negates : command.top.subcommand_negates_reqs ≡ false
unfolding command
command_negates = refl

module _ (c : Command) (m : ArgMatches) (p : IsParsedFrom c m) (is : app_of c ≡ command) (d : Arg) where
  rules_are : map rule_of (args_of c) ≡ rules
  rules_are = ap (λ (a : App). a.top.rules) is ∙ command_rules

  abbrev arg_at : ℕ → Arg
  arg_at j = slice_index_or (args_of c) j d

  count : length (args_of c) ≡ 6
  count = sym (length-map (args_of c) rule_of) ∙ ap length rules_are

  rule_at : (j : ℕ) (e : Arg) → j < length (args_of c) → rule_of (slice_index_or (args_of c) j e) ≡ slice_index_or rules j (rule_of d)
  rule_at j e lt = sym (get_or-map rule_of (args_of c) j e (rule_of d) lt) ∙ ap (λ (rs : List Rule). slice_index_or rs j (rule_of d)) rules_are

  id_at : (j : ℕ) (e : Arg) → j < length (args_of c) → (slice_index_or (args_of c) j e).id.now ≡ slice_index_or ids j []
  id_at j e lt = ap (λ (r : Rule). r.id) (rule_at j e lt) ∙ at_place j (rw (← count) lt)
    where
      at_place : (j : ℕ) → j < 6 → (slice_index_or rules j (rule_of d)).id ≡ slice_index_or ids j []
      at_place zero lt = refl
      at_place (suc zero) lt = refl
      at_place (suc (suc zero)) lt = refl
      at_place (suc (suc (suc zero))) lt = refl
      at_place (suc (suc (suc (suc zero)))) lt = refl
      at_place (suc (suc (suc (suc (suc zero))))) lt = refl
      at_place (suc (suc (suc (suc (suc (suc n)))))) lt = absurd (omega arith)

  unique : (k : ℕ) → k < length (args_of c) → (j : ℕ) (e : Arg) → j < length (args_of c)
      → bytes_eq (slice_index_or (args_of c) j e).id.now (arg_at k).id.now ≡ true → j ≡ k
  unique k k_lt j e lt same =
      let one : slice_index_or ids j [] ≡ slice_index_or ids k [] = sym (id_at j e lt) ∙ (bytes_eq-Decides _ _).0 same ∙ id_at k d k_lt in
      sym (place_at j [] (rw (← count) lt)) ∙ ap place one ∙ place_at k [] (rw (← count) k_lt)

  plain_at : (j : ℕ) (e : Arg) → j < length (args_of c) → IsPlainArg (slice_index_or (args_of c) j e) × ((slice_index_or (args_of c) j e).default_vals_ifs.items ≡ [])
      × ((slice_index_or (args_of c) j e).val_delim ≡ None)
  plain_at j e lt =
      let all : list_all (λ (r : Rule). r.is_simple && r.is_free) (map rule_of (args_of c)) ≡ true = rw rules_are refl in
      let at = AllPass-from_list_all (λ (r : Rule). r.is_simple && r.is_free) (map rule_of (args_of c)) all j (rule_of e) (rw (length-map (args_of c) rule_of) lt) in
      let here : ((rule_of (slice_index_or (args_of c) j e)).is_simple && (rule_of (slice_index_or (args_of c) j e)).is_free) ≡ true = rw (get_or-map rule_of (args_of c) j e (rule_of e) lt) at at in
      let halves = both _ _ here in
      plain_arg (slice_index_or (args_of c) j e) halves.0 halves.1

  fields : has_plain_fields (out-Command c) ≡ true
  fields = ap (λ (a : App). a.top.is_plain) is ∙ command_plain

  plain : IsPlain c
  plain = (λ j e lt. (plain_at j e lt).0, empty_list _ (both _ _ fields).0)

  globals : (out-Command c).has_globals ≡ false
  globals = not-true _ (both _ _ (both _ _ (both _ _ fields).1).1).0

  negates : (out-Command c).subcommand_negates_reqs ≡ false
  negates = ap (λ (a : App). a.top.subcommand_negates_reqs) is ∙ command_negates

  -- the text of the argument with the rule r
  text_at : (k : ℕ) (r : Rule) (q : ValueParser) → k < 6 → slice_index_or rules k (rule_of d) ≡ r → is_own r.id ≡ true
      → r.action ≡ Some Set → r.range ≡ None → r.parser ≡ Some q → (r.required ≡ true) ⊎ (0 < length r.defaults)
      → HasText (found_of m) r.id r.ignore_case q
  text_at k r q small at own set range parser given =
      let lt : k < length (args_of c) = rw count small in
      let rule_is : rule_of (arg_at k) ≡ r = rule_at k d lt ∙ at in
      let mine = own_id (arg_at k).id.now (ap (λ (x : Rule). is_own x.id) rule_is ∙ own) in
      let has : is_some (matched_of (found_of m) (arg_at k).id.now) ≡ true = elim given [
        | inl required ↦ present_has_entry (found_of m) (arg_at k).id.now
            (required_present c m p plain globals negates k d lt (ap (λ (x : Rule). x.required) rule_is ∙ required))
        | inr some ↦ found_in (found_of m).entries.items (arg_at k).id.now
            (default_present c m p globals k d lt ((plain_at k d lt).1, has_default (arg_at k) r rule_is some))
      ] in
      let text = entry_text c m p plain globals k d lt (unique k lt) mine.0 mine.1 (ap (λ (x : Rule). x.action) rule_is ∙ set) (plain_at k d lt).2
      (one_least (arg_at k) (ap (λ (x : Rule). x.range) rule_is ∙ range)) q (ap (λ (x : Rule). x.parser) rule_is ∙ parser) has in
      subst (λ (x : Rule). HasText (found_of m) x.id x.ignore_case q) rule_is text
    where
      one_least : (a : Arg) → a.num_vals ≡ None → 1 ≤ least_values a
      one_least a none = rw none (omega arith)

      has_default : (a : Arg) (r : Rule) → rule_of a ≡ r → 0 < length r.defaults → 0 < length (items_of a.default_vals)
      has_default a r is some = rw (← length-map (items_of a.default_vals) (λ (s : Bor Text). s.now), ap (λ (x : Rule). length x.defaults) is) some

  number_at : (k : ℕ) (o : NumberOption) → k < 6 → slice_index_or rules k (rule_of d) ≡ option_rule o → is_own o.name ≡ true → HasNumber o (found_of m)
  number_at k o small at own =
      let text = text_at k (option_rule o) (vp.Signed (pos o.low) (pos o.high)) small at own refl refl refl (inr (omega arith)) in
      record { text = text.0; given = text.2; within = text.3 }

-- an argument of the command
first_arg : (xs : List Arg) (r : Rule) (rs : List Rule) → map rule_of xs ≡ r ∷ rs → Arg
first_arg [] r rs e =
    let bad : 0 ≡ suc (length rs) = ap length e in
    absurd (omega arith)
first_arg (x ∷ xs) r rs e = x

module _ (c : Command) (m : ArgMatches) (p : IsParsedFrom c m) (is : app_of c ≡ command) where
  some_arg : Arg
  some_arg = first_arg (args_of c) _ _ (ap (λ (a : App). a.top.rules) is ∙ command_rules)

  pub workers_found : HasNumber workers (found_of m)
  workers_found = number_at c m p is some_arg 1 workers (omega arith) refl refl

  pub budget_found : HasNumber budget (found_of m)
  budget_found = number_at c m p is some_arg 2 budget (omega arith) refl refl

  pub number_found : HasNumber number (found_of m)
  number_found = number_at c m p is some_arg 3 number (omega arith) refl refl
