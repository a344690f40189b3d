-- What a parse that succeeds found for an argument that is required or has a default, where nothing excludes anything.
use Rattle.std.proofs.Common.{zero, suc, ◌≡◌, ◌∙◌, ◌<◌, ◌≤◌, ap, ℕ, Bool, true, false, List, [], ◌∷◌, length, is_some, Option, Some, None, refl, sym, subst, inl, inr, arith}
use Rattle.std.specs.List.{All, slice_index_or}
use Rattle.std.specs.Str.{bytes_eq}
use Rattle.std.specs.Prelude.{find, option_map}
use Rattle.std.specs.Borrow.{Bor}
use Rattle.std.proofs.lemmas.Slice.Eq.{bytes_eq-Decides}
use Rattle.std.proofs.lemmas.List.Elements.{All-get_or}
use Rattle.clap.specs.Facts.{args_of, groups_of, Entry, EntryPasses, HasIn, PassesArg, HasReading, least_values, parser_of, parser_of_value}
use Rattle.clap.specs.Built.{IsPlain, IsParsedFrom, IsAuto, SameRules}
use Rattle.clap.specs.Matches.{matched_of, first_value, one_text, found_of}
use Rattle.clap.specs.Values.{Accepts, read_as, reading_of}
use Rattle.clap.specs.declared.builder.value_parser.Reading.{Reading}
use Rattle.clap.specs.declared.builder.action.ArgAction.TheVariants.{Count, Set}
use Rattle.clap.specs.declared.builder.arg.Arg.{Arg}
use Rattle.clap.specs.declared.builder.command.Command.{Command}
use Rattle.clap.specs.declared.builder.command.Command.TheViews.{out-Command}
use Rattle.clap.specs.declared.builder.value_parser.ValueParser.{ValueParser}
use Rattle.clap.specs.declared.parser.matches.ArgMatches.{ArgMatches}
use Rattle.clap.specs.declared.parser.matches.Found.{Found}
use Rattle.clap.specs.declared.parser.matches.MatchedArg.{MatchedArg}
use Rattle.clap.proofs.CallerLemmas.{entry_by_id, same_rules_by_id}

-- an id that some entry has is found
pub found_in : (xs : List Entry) (id : List ℕ) → HasIn xs id → is_some (option_map (λ e. e.1) (find (λ e. bytes_eq e.0.now id) xs)) ≡ true
found_in [] id h = absurd (omega (arith, h.1))
found_in (x ∷ xs) id h = go (bytes_eq x.0.now id) refl h.0 h.1 h.2 (λ i lt at. found_in xs id (i, lt, at))
  where
    go : (b : Bool) → bytes_eq x.0.now id ≡ b → (i : ℕ) → i < length (x ∷ xs) → ((d : Entry) → bytes_eq (slice_index_or (x ∷ xs) i d).0.now id ≡ true)
        → ((i : ℕ) → i < length xs → ((d : Entry) → bytes_eq (slice_index_or xs i d).0.now id ≡ true) → is_some (option_map (λ e. e.1) (find (λ e. bytes_eq e.0.now id) xs)) ≡ true)
        → is_some (option_map (λ e. e.1) (find (λ e. bytes_eq e.0.now id) (x ∷ xs))) ≡ true
    go true t i lt at rest = rw t refl
    go false t zero lt at rest =
        let bad : false ≡ true = sym t ∙ at x in
        cc
    go false t (suc i) lt at rest = rw t (rest i (omega arith) at)

-- the first text of an argument passed its parser, and is read as that parser says
abbrev pub HasText : Found → List ℕ → Bool → ValueParser → Type 0
HasText f id ignore_case q = (t : List ℕ) × (first_value f id ≡ Some t) × (one_text f id ≡ Some (read_as (reading_of q) t)) × Accepts ignore_case q t

first_text : (f : Found) (id : List ℕ) (x : MatchedArg) (how : Reading) (P : Bor (List ℕ) → Type 0) → matched_of f id ≡ Some x → x.reading ≡ how
    → All P x.vals.items → 0 < length x.vals.items
    → (v : Bor (List ℕ)) × (first_value f id ≡ Some v.now) × (one_text f id ≡ Some (read_as how v.now)) × P v
first_text f id x how P found is all some = go x.vals.items refl all some
  where
    go : (vs : List (Bor (List ℕ))) → x.vals.items ≡ vs → All P vs → 0 < length vs
        → (v : Bor (List ℕ)) × (first_value f id ≡ Some v.now) × (one_text f id ≡ Some (read_as how v.now)) × P v
    go [] e all lt = absurd (omega arith)
    go (v ∷ vs) e all lt = (v, rw (found, e) refl, rw (found, e, is) refl, All-get_or P (v ∷ vs) 0 v (omega arith) all)

accepts_of : (a y : Arg) (q : ValueParser) (t : List ℕ) → SameRules a y → a.value_parser ≡ Some q
    → Accepts y.ignore_case (parser_of y) t → Accepts a.ignore_case q t
accepts_of a y q t s parser read =
    let is_q : parser_of y ≡ q = ap parser_of_value (s.parser q parser) in
    let as_q : Accepts y.ignore_case q t = subst (λ (w : ValueParser). Accepts y.ignore_case w t) is_q read in
    subst (λ (b : Bool). Accepts b q t) s.ignore_case as_q

module _ (old : Command) (m : ArgMatches) (p : IsParsedFrom old m) (plain : IsPlain old) (globals : (out-Command old).has_globals ≡ false)
    (k : ℕ) (d : Arg) (lt : k < length (args_of old))
    (unique : (j : ℕ) (e : Arg) → j < length (args_of old) → bytes_eq (slice_index_or (args_of old) j e).id.now (slice_index_or (args_of old) k d).id.now ≡ true → j ≡ k)
    (named : (slice_index_or (args_of old) k d).id.now ≡ [] → ⊥) (own : IsAuto (slice_index_or (args_of old) k d) → ⊥)
    (set : (slice_index_or (args_of old) k d).action ≡ Some Set) (delim : (slice_index_or (args_of old) k d).val_delim ≡ None)
    (least : 1 ≤ least_values (slice_index_or (args_of old) k d))
    (q : ValueParser) (parser : (slice_index_or (args_of old) k d).value_parser ≡ Some q) where
  abbrev arg : Arg
  arg = slice_index_or (args_of old) k d

  same_rules : (j : ℕ) (x : Arg) → j < length (args_of p.built) → slice_index_or (args_of p.built) j x ≡ x → bytes_eq x.id.now arg.id.now ≡ true → SameRules arg x
  same_rules = same_rules_by_id old m p k d lt unique own

  is_reading : (r : Reading) → HasReading p.built arg.id.now r → r ≡ reading_of q
  is_reading r any =
      let is_q : parser_of any.1 ≡ q = ap parser_of_value ((same_rules any.0 any.1 any.2 any.3 any.4.0).parser q parser) in
      sym any.4.1 ∙ ap reading_of is_q

  passes : (v : Bor (List ℕ)) → PassesArg p.built arg.id.now v.now → Accepts arg.ignore_case q v.now
  passes v any = accepts_of arg any.1 q v.now (same_rules any.0 any.1 any.2 any.3 any.4.0) parser any.4.1

  no_group : (e : Entry) → e.0.now ≡ arg.id.now → EntryPasses p.built e → e.1.is_group ≡ true → ⊥
  no_group e key pass g =
      let none : groups_of p.built ≡ [] = (p.from.plain plain).1 in
      elim (pass.3 g) [
        | inl empty ↦ named (sym key ∙ empty)
        | inr lots ↦
            let bad : 0 < 0 = rw none at lots in
            absurd (omega arith)
      ]

  has_values : (e : Entry) → e.0.now ≡ arg.id.now → EntryPasses p.built e → 0 < length e.1.vals.items
  has_values e key pass =
      elim pass.1 [
        | inl h ↦ absurd (no_group e key pass h.0)
        | inr (inl v) ↦ v
        | inr (inr (inl h)) ↦
            let any = h.1 in
            let s = same_rules any.0 any.1 any.2 any.3 (rw key at any.4.0) in
            let is_set : any.1.action ≡ Some Set = s.action Set set in
            let bad : Set ≡ Count = rw is_set at any.4.1 in
            cc
        | inr (inr (inr h)) ↦
            let s = same_rules h.0 h.1 h.2 h.3 (rw key at h.4.0) in
            elim h.4.1 [
              | inl none ↦
                  let one = s.least set least in
                  absurd (omega arith)
              | inr has ↦
                  let bad : false ≡ true = rw (s.val_delim, delim) at has in
                  cc
            ]
      ]

  read_at : (x : MatchedArg) → matched_of (found_of m) arg.id.now ≡ Some x → (e : Entry) → e.1 ≡ x → e.0.now ≡ arg.id.now → EntryPasses p.built e
      → HasText (found_of m) arg.id.now arg.ignore_case q
  read_at x found e same key pass =
      let all : All (λ v. PassesArg p.built arg.id.now v.now) e.1.vals.items = elim pass.0 [
        | inl g ↦ absurd (no_group e key pass g)
        | inr vals ↦ subst (λ (w : List ℕ). All (λ v. PassesArg p.built w v.now) e.1.vals.items) key vals
      ] in
      let how : e.1.reading ≡ reading_of q = elim pass.4 [
        | inl g ↦ absurd (no_group e key pass g)
        | inr h ↦ is_reading e.1.reading (subst (λ (w : List ℕ). HasReading p.built w e.1.reading) key h)
      ] in
      let got = first_text (found_of m) arg.id.now e.1 (reading_of q) (λ v. PassesArg p.built arg.id.now v.now) (found ∙ ap Some (sym same)) how all (has_values e key pass) in
      (got.0.now, got.1, got.2, passes got.0 got.3)

  -- an argument that has an entry has a text
  pub entry_text : is_some (matched_of (found_of m) arg.id.now) ≡ true → HasText (found_of m) arg.id.now arg.ignore_case q
  entry_text has = go (matched_of (found_of m) arg.id.now) refl has
    where
      go : (o : Option MatchedArg) → matched_of (found_of m) arg.id.now ≡ o → is_some o ≡ true → HasText (found_of m) arg.id.now arg.ignore_case q
      go None e some = cc
      go (Some x) e some =
          let got = entry_by_id (EntryPasses p.built) (found_of m).entries.items arg.id.now x (p.parsed (p.from.globals ∙ globals)).values e in
          read_at x e got.0 got.1 ((bytes_eq-Decides got.0.0.now arg.id.now).0 got.2) got.3
