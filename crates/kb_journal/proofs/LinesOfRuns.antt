-- The lines of a legal journal decide it.
use Rattle.std.proofs.Common.{ℕ, ◌≡◌, ◌<◌, refl, sym, ap, ap₂, ◌∙◌, subst, arith, List, [], ◌∷◌, ◌++◌, map, length, length-append, All}
use Rattle.std.proofs.lemmas.List.{map-append}
use Rattle.std.proofs.lemmas.List.Elements.{All-head, All-tail}
use Rattle.kb_lemmas.proofs.Lists.{same_end}
use Rattle.kb_term.specs.Signature.{Problem, IsWithinLimits}
use Rattle.kb_node.specs.declared.job.Job.TheVariants.{Reduce, Orient, Overlap, Close}
use Rattle.mkb_model.specs.Plain.{Plain, PlainNode}
use Rattle.mkb_model.specs.Ready.{KeepsPairs}
use Rattle.mkb_model.specs.Journals.{After, Follows, IsFirstJob, IsRun, Moment, Move, takes, ends, gives_back, halts, move_of, moves_of, journal_of}
use Rattle.mkb_model.specs.declared.proposed.Proposed.{Proposed}
use Rattle.mkb_model.specs.declared.proposed.Proposed.TheVariants as proposals
use Rattle.mkb_model.specs.declared.entry.Effect.TheVariants as effects
use Rattle.mkb_model.specs.declared.entry.Entry.{Entry}
use Rattle.mkb_model.specs.declared.entry.Entry.TheVariants as entries
use Rattle.mkb_model.specs.declared.settings.Settings.{Settings}
use Rattle.mkb_model.proofs.commits.RoleChanges.{Fits}
use Rattle.mkb_model.proofs.nodes.DistinctPairs.{fits_run, pairs_follow}
use Rattle.mkb_model.proofs.journals.MovesDecide.{moves_decide}
use Rattle.mkb_model.proofs.runs.Selections.{legal-possible}
use Rattle.mkb_model.proofs.journals.OneRun.{after_once}
use Rattle.kb_journal.specs.declared.entry_line.EntryLine.{EntryLine}
use Rattle.kb_journal.specs.declared.entry_line.EntryLine.TheVariants.{TakeReduce, TakeOrient, TakeOverlap, TakeClose, Facts, Rewrite, Oriented, Fork, Refused, Deduced, Unjoined, Closed, Over, Drop, Abandon, Halt}
use Rattle.kb_journal.specs.EntryLines.{line_of, IsEntryOn}
use Rattle.kb_journal.specs.Replays.{HasLines}
use Rattle.kb_journal.proofs.Kept.{run_on, same_line}

-- ---- the move of a line

abbrev pub move_line : EntryLine → Move
move_line (TakeReduce w t p n) = takes w t (Reduce p (record { 0 = n }))
move_line (TakeOrient w t p n) = takes w t (Orient p (record { 0 = n }))
move_line (TakeOverlap w t p a b) = takes w t (Overlap p a b)
move_line (TakeClose w t p) = takes w t (Close p)
move_line (Facts t k) = ends t
move_line (Rewrite t n) = ends t
move_line (Oriented t d) = ends t
move_line (Fork t) = ends t
move_line (Refused t) = ends t
move_line (Deduced t k) = ends t
move_line (Unjoined t k) = ends t
move_line (Closed t) = ends t
move_line (Over t r) = ends t
move_line (Drop t p) = ends t
move_line (Abandon t) = gives_back t
move_line Halt = halts

made_moves : (xs : List PlainNode) (w t : ℕ) (x : Proposed) → move_line (line_of xs (entries.Commit w t (effects.Made x))) ≡ ends t
made_moves xs w t (proposals.Facts fs) = refl
made_moves xs w t (proposals.Rewrite n v at a found u) = refl
made_moves xs w t (proposals.One p n d c) = refl
made_moves xs w t (proposals.Both p n c0 c1) = refl
made_moves xs w t (proposals.Refuse p n) = refl
made_moves xs w t (proposals.Deduce a c pairs) = refl
made_moves xs w t (proposals.Unjoined p pairs) = refl
made_moves xs w t (proposals.Closed p) = refl
made_moves xs w t (proposals.Limit j cause) = refl

-- a line keeps the move of its entry
pub line_moves : (xs : List PlainNode) (e : Entry) → move_line (line_of xs e) ≡ move_of e
line_moves xs (entries.Take w t (Reduce p n)) = refl
line_moves xs (entries.Take w t (Orient p n)) = refl
line_moves xs (entries.Take w t (Overlap p a b)) = refl
line_moves xs (entries.Take w t (Close p)) = refl
line_moves xs (entries.Commit w t (effects.Over r)) = refl
line_moves xs (entries.Commit w t (effects.Made x)) = made_moves xs w t x
line_moves xs (entries.Drop w t p) = refl
line_moves xs (entries.Abandon w t) = refl
line_moves xs entries.Halt = refl

lines_move : (xs : List PlainNode) (J : List Entry) → map move_line (map (line_of xs) J) ≡ map move_of J
lines_move xs [] = refl
lines_move xs (e ∷ J) = ap₂ (λ (m : Move) (ms : List Move). m ∷ ms) (line_moves xs e) (lines_move xs J)

-- ---- lists that end alike

longer : {A : Type 0} (xs : List A) (x : A) → 0 < length (xs ++ x ∷ [])
longer xs x = omega (arith, length-append xs (x ∷ []))

pub no_end : {A : Type 0} (xs : List A) (x : A) → [] ≡ xs ++ x ∷ [] → ⊥
no_end xs x e = let n = ap length e in absurd (omega (arith, longer xs x))

-- ---- moves decide

same_moves : (ms ns : List Moment) → map move_of (journal_of ms) ≡ map move_of (journal_of ns) → moves_of ms ≡ moves_of ns
same_moves [] [] e = refl
same_moves [] (n ∷ ns) e = absurd (no_end (map move_of (journal_of ns)) (move_of n.entry) (e ∙ map-append move_of (journal_of ns) (n.entry ∷ [])))
same_moves (m ∷ ms) [] e = absurd (no_end (map move_of (journal_of ms)) (move_of m.entry) (sym e ∙ map-append move_of (journal_of ms) (m.entry ∷ [])))
same_moves (m ∷ ms) (n ∷ ns) e =
    let r = same_end (map move_of (journal_of ms)) (map move_of (journal_of ns)) (move_of m.entry) (move_of n.entry) (sym (map-append move_of (journal_of ms) (m.entry ∷ [])) ∙ e ∙ map-append move_of (journal_of ns) (n.entry ∷ [])) in
    ap₂ (λ (x : Move) (xs : List Move). x ∷ xs) r.1 (same_moves ms ns r.0)

-- two legal journals with the same moves are one
pub same_journals : (P : Problem) (s : Settings) → IsWithinLimits P → (J K : List Entry) (c d : Plain) → After P s J c → After P s K d → map move_of J ≡ map move_of K → (J ≡ K) × (c ≡ d)
same_journals P s within J K c d a b e =
    let r = moves_decide P s within a.0 b.0 c d (legal-possible P s a.0 c a.2) (legal-possible P s b.0 d b.2) (same_moves a.0 b.0 (ap (map move_of) a.1 ∙ e ∙ ap (map move_of) (sym b.1))) in
    (sym a.1 ∙ ap journal_of r.0 ∙ b.1, r.1)

-- a legal journal goes on in one way with a move
pub same_next : (P : Problem) (s : Settings) → IsWithinLimits P → (J : List Entry) (e f : Entry) (c d : Plain) → After P s (J ++ e ∷ []) c → After P s (J ++ f ∷ []) d → move_of e ≡ move_of f → (e ≡ f) × (c ≡ d)
same_next P s within J e f c d a b m =
    let r = same_journals P s within (J ++ e ∷ []) (J ++ f ∷ []) c d a b (map-append move_of J (e ∷ []) ∙ ap (λ x. map move_of J ++ x ∷ []) m ∙ sym (map-append move_of J (f ∷ []))) in
    ((same_end J J e f r.0).1, r.1)

-- two legal journals with the same lines are one
pub same_lines : (P : Problem) (s : Settings) → IsWithinLimits P → (ls : List EntryLine) (J K : List Entry) (c d : Plain) → HasLines P s ls J c → HasLines P s ls K d → (J ≡ K) × (c ≡ d)
same_lines P s within ls J K c d a b =
    same_journals P s within J K c d a.after b.after
    (sym (lines_move c.nodes J) ∙ ap (map move_line) (a.lines_are ∙ sym b.lines_are) ∙ lines_move d.nodes K)

-- ---- one entry more

-- the lines of entries stay
lines_stay : (xs ys : List PlainNode) (J : List Entry) → KeepsPairs xs ys → Fits ys → All (IsEntryOn xs) J → map (line_of ys) J ≡ map (line_of xs) J
lines_stay xs ys [] k f h = refl
lines_stay xs ys (e ∷ J) k f h = ap₂ (λ (l : EntryLine) (ls : List EntryLine). l ∷ ls) (same_line xs ys e k f (All-head (IsEntryOn xs) e J h)) (lines_stay xs ys J k f (All-tail (IsEntryOn xs) e J h))

-- what stands before the last entry of a legal journal
pub record IsLast (P : Problem) (s : Settings) (J : List Entry) (e : Entry) (c : Plain) : Type 0 where
  pub past : List Moment
  pub board : Plain
  pub journal : journal_of past ≡ J
  pub run : IsRun P s past board
  pub follows : Follows IsFirstJob past board e c
  pub stay : map (line_of c.nodes) J ≡ map (line_of board.nodes) J

last_moment : (P : Problem) (s : Settings) → IsWithinLimits P → (m : Moment) (past : List Moment) (c : Plain) → IsRun P s (m ∷ past) c → IsLast P s (journal_of past) m.entry c
last_moment P s within m past c (run, f) = record {
  past = past;
  board = m.board;
  journal = refl;
  run = run;
  follows = f;
  stay = lines_stay m.board.nodes c.nodes (journal_of past) (pairs_follow IsFirstJob past m.board m.entry c f) (fits_run IsFirstJob P s (m ∷ past) c (run, f)) (run_on P s past m.board within run);
}

pub last_of : (P : Problem) (s : Settings) → IsWithinLimits P → (J : List Entry) (e : Entry) (c : Plain) → After P s (J ++ e ∷ []) c → IsLast P s J e c
last_of P s within J e c ([], j, run) = absurd (no_end J e j)
last_of P s within J e c (m ∷ past, j, run) =
    let r = same_end (journal_of past) J m.entry e j in
    subst {A = List Entry} (λ K. IsLast P s K e c) r.0 (subst {A = Entry} (λ f. IsLast P s (journal_of past) f c) r.1 (last_moment P s within m past c run))

-- the lines with one more
pub lines_grow : (P : Problem) (s : Settings) → IsWithinLimits P → (ls : List EntryLine) (l : EntryLine) (J : List Entry) (e : Entry) (b c : Plain) → HasLines P s ls J b → After P s (J ++ e ∷ []) c → line_of c.nodes e ≡ l → HasLines P s (ls ++ l ∷ []) (J ++ e ∷ []) c
lines_grow P s within ls l J e b c h a is =
    let last = last_of P s within J e c a in
    let same : last.board ≡ b = after_once P s J last.board b (last.past, last.journal, last.run) h.after in
    record {
      after = a;
      lines_are = map-append (line_of c.nodes) J (e ∷ []) ∙ ap₂ (λ (xs : List EntryLine) (x : EntryLine). xs ++ x ∷ []) (last.stay ∙ ap (λ (z : Plain). map (line_of z.nodes) J) same ∙ h.lines_are) is;
    }

-- the lines without the last
pub record Shorter (P : Problem) (s : Settings) (ls : List EntryLine) (l : EntryLine) (K : List Entry) (d : Plain) : Type 0 where
  pub journal : List Entry
  pub entry : Entry
  pub board : Plain
  pub has : HasLines P s ls journal board
  pub after : After P s (journal ++ entry ∷ []) d
  pub line_is : line_of d.nodes entry ≡ l

pub lines_shorter : (P : Problem) (s : Settings) → IsWithinLimits P → (ls : List EntryLine) (l : EntryLine) (K : List Entry) (d : Plain) → HasLines P s (ls ++ l ∷ []) K d → Shorter P s ls l K d
unfolding last_moment
lines_shorter P s within ls l K d h = go h.after
  where
    go : After P s K d → Shorter P s ls l K d
    go ([], j, run) = absurd (no_end ls l (ap (map (line_of d.nodes)) j ∙ h.lines_are))
    go (m ∷ past, j, run) =
        let last = last_moment P s within m past d run in
        let r = same_end (map (line_of d.nodes) (journal_of past)) ls (line_of d.nodes m.entry) l (sym (map-append (line_of d.nodes) (journal_of past) (m.entry ∷ [])) ∙ ap (map (line_of d.nodes)) j ∙ h.lines_are) in
        record {
          journal = journal_of past;
          entry = m.entry;
          board = m.board;
          has = record { after = (past, refl, run.0); lines_are = sym last.stay ∙ r.0 };
          after = (m ∷ past, refl, run);
          line_is = r.1;
        }
