-- Whether a job may be taken, told by searches over nodes and processes.
use Rattle.std.proofs.Common.{ℕ, ◌+◌, ◌-◌, ◌<◌, ◌≤◌, ◌≡◌, refl, sym, ap, ap₂, ◌∙◌, arith, List, [], ◌∷◌, length, map, filter, flat_map, drop, get_or, Bool, true, false, cond, not, ◌&&◌, ◌||◌, Option, Some, None}
use Rattle.std.specs.Prelude.{is_some}
use Rattle.std.specs.List.{list_any}
use Rattle.std.specs.declared.cmp.Ordering.{Ordering}
use Rattle.std.proofs.Math.Bool.{and-false, and-true, or-false}
use Rattle.std.proofs.lemmas.List.Folds.{list_any-append}
use Rattle.kb_term.specs.declared.origin.RuleRef.{RuleRef}
use Rattle.kb_label.specs.Names.{Name, has}
use Rattle.kb_node.specs.declared.job.Job.{Job}
use Rattle.kb_node.specs.declared.job.Job.TheVariants.{Overlap, Close}
use Rattle.mkb_model.specs.Jobs.{is_free, job_cmp, least, ref_le}
use Rattle.mkb_model.specs.Plain.{Plain, cost, directions, done_of, is_over, is_rule, node_numbers, numbers_from, rules_of, weight}
use Rattle.mkb_model.specs.DueJobs.{awake, first_job, is_close_due, is_due, is_reducible, is_work_due, work_of}
use Rattle.mkb_model.specs.declared.entry.Ticket.{Ticket}
use Rattle.mkb_rules.specs.Roles.{roles_of}
use Rattle.mkb_rules.specs.declared.roles.Roles.{Roles}
use Rattle.mkb_board.specs.Choosing.{first_choice, is_choice, jobs_of, merged}
use Rattle.mkb_agenda.specs.Open.{is_open_to}
use Rattle.mkb_agenda.proofs.OpenRules.{reducible_by}
use Rattle.mkb_board.proofs.Choices.{choice_parts, open_in, open_works}
use Rattle.mkb_board.proofs.Firsts.{first_as, least_free, least_step}
use Rattle.mkb_board.proofs.Idle.{true_and, working_so}
use Rattle.mkb_board.proofs.Picking.{any_alike, any_filter, drop_at, numbers_step}

-- ---- searches

pub any_mapped : {A B : Type 0} (q : B → Bool) (f : A → B) (xs : List A) → list_any q (map f xs) ≡ list_any (λ x. q (f x)) xs
any_mapped q f [] = refl
any_mapped q f (x ∷ xs) = ap (λ z. q (f x) || z) (any_mapped q f xs)

any_flat : {A B : Type 0} (q : B → Bool) (F : A → List B) (xs : List A) → list_any q (flat_map F xs) ≡ list_any (λ x. list_any q (F x)) xs
any_flat q F [] = refl
any_flat q F (x ∷ xs) = list_any-append q (F x) (flat_map F xs) ∙ ap (λ z. list_any q (F x) || z) (any_flat q F xs)

-- from a place on: what stands there, or the rest
pub any_from : {A : Type 0} (q : A → Bool) (xs : List A) (i : ℕ) (x d : A) → i < length xs → x ≡ get_or xs i d → list_any q (drop i xs) ≡ (q x || list_any q (drop (i + 1) xs))
any_from q xs i x d there is = ap (list_any q) (drop_at xs i x d there is)

-- over numbers: all of them at first
pub any_first : (e : ℕ → Bool) (len : ℕ) → list_any e (numbers_from 0 len) ≡ list_any e (numbers_from 0 (len - 0))
any_first e len = let same : len ≡ len - 0 = omega arith in ap (λ k. list_any e (numbers_from 0 k)) same

-- one that fails is passed over
pub any_on : (e : ℕ → Bool) (n len : ℕ) → n < len → e n ≡ false → list_any e (numbers_from n (len - n)) ≡ list_any e (numbers_from (n + 1) (len - (n + 1)))
any_on e n len h k = ap (list_any e) (numbers_step n len h) ∙ ap (λ z. z || list_any e (numbers_from (n + 1) (len - (n + 1)))) k

-- one that passes ends the search
pub any_here : (e : ℕ → Bool) (n len : ℕ) → n < len → e n ≡ true → list_any e (numbers_from n (len - n)) ≡ true
any_here e n len h k = ap (list_any e) (numbers_step n len h) ∙ ap (λ z. z || list_any e (numbers_from (n + 1) (len - (n + 1)))) k

-- none is left behind the last
pub none_behind : (e : ℕ → Bool) (n len : ℕ) → len ≤ n → list_any e (numbers_from n (len - n)) ≡ false
none_behind e n len h = let none : len - n ≡ 0 = omega arith in ap (λ k. list_any e (numbers_from n k)) none

-- ---- the rules of a process

-- a search among them goes over all nodes and both directions
pub any_rule : (b : Plain) (p : Name) (f : RuleRef → Bool) → list_any f (rules_of b p) ≡ list_any (λ n. list_any (λ (a : RuleRef). is_rule b p a && f a) (directions n)) (node_numbers b)
any_rule b p f = any_filter f (is_rule b p) (flat_map directions (node_numbers b)) ∙ any_flat (λ (a : RuleRef). is_rule b p a && f a) directions (node_numbers b)

-- so does one for a rule that is open to a node
pub any_open : (b : Plain) (p : Name) (r : Roles) (n : ℕ) → r ≡ roles_of b p n → is_reducible b p n ≡ list_any (λ m. list_any (λ (a : RuleRef). is_rule b p a && is_open_to b r n a) (directions m)) (node_numbers b)
any_open b p r n same =
    reducible_by b p n ∙ ap (λ (z : Roles). list_any (is_open_to b z n) (rules_of b p)) (sym same) ∙ any_rule b p (is_open_to b r n)

-- one for a rule that may be overlapped with others
pub any_overlap : (b : Plain) (q : Job → Bool) (p : Name) → list_any q (flat_map (λ (a : RuleRef). map (Overlap p a) (rules_of b p)) (rules_of b p))
    ≡ list_any (λ n. list_any (λ (a : RuleRef). is_rule b p a && list_any q (map (Overlap p a) (rules_of b p))) (directions n)) (node_numbers b)
any_overlap b q p = any_flat q (λ (a : RuleRef). map (Overlap p a) (rules_of b p)) (rules_of b p) ∙ any_rule b p (λ a. list_any q (map (Overlap p a) (rules_of b p)))

-- and one for such another: what may be overlapped is a rule of the process
pub any_second : (b : Plain) (flight : List Job) (p : Name) (a : RuleRef) → list_any (is_choice b flight) (map (Overlap p a) (rules_of b p)) ≡ list_any (λ n. list_any (λ (c : RuleRef). is_choice b flight (Overlap p a c)) (directions n)) (node_numbers b)
any_second b flight p a =
    any_mapped (is_choice b flight) (Overlap p a) (rules_of b p)
    ∙ any_rule b p (λ c. is_choice b flight (Overlap p a c))
    ∙ any_alike (λ n. list_any (λ (c : RuleRef). is_rule b p c && is_choice b flight (Overlap p a c)) (directions n)) (λ n. list_any (λ (c : RuleRef). is_choice b flight (Overlap p a c)) (directions n)) (node_numbers b)
    (λ n. any_alike (λ (c : RuleRef). is_rule b p c && is_choice b flight (Overlap p a c)) (λ c. is_choice b flight (Overlap p a c)) (directions n) (λ c. own (is_rule b p a) (ref_le a c && not (has (done_of b a c) p)) (is_free flight (Overlap p a c)) (is_rule b p c)))
  where
    own : (x u v y : Bool) → (y && (((x && y) && u) && v)) ≡ (((x && y) && u) && v)
    own x u v true = refl
    own x u v false = sym (ap (λ z. (z && u) && v) (and-false x))

-- ---- what a process would take

some_least : {A : Type 0} (R : A → A → Ordering) (t : A → Bool) (xs : List A) → is_some (least R (filter t xs)) ≡ list_any t xs
some_least R t [] = refl
some_least {A = A} R t (x ∷ xs) = go (some_least R t xs) (t x)
  where
    go : is_some (least R (filter t xs)) ≡ list_any t xs → (s : Bool) → is_some (least R (cond s (x ∷ filter t xs) (filter t xs))) ≡ (s || list_any t xs)
    go h true = refl
    go h false = h

some_merged : {A : Type 0} (R : A → A → Ordering) (o r : Option A) → is_some (merged R o r) ≡ (is_some o || is_some r)
some_merged R None r = refl
some_merged R (Some x) r = refl

-- a process that goes on and isn't closed would take some work that is free, or its closing where no work is due
pub some_choice : (b : Plain) (flight : List Job) (p : Name) → has b.living p ≡ true → is_over b p ≡ false → has b.closed p ≡ false
    → is_some (first_choice b flight p) ≡ (list_any (is_choice b flight) (work_of b p) || (not (list_any (is_choice b []) (work_of b p)) && is_free flight (Close p)))
some_choice b flight p lives going unclosed =
    let R = job_cmp (cost b) (weight b) in
    let undue = not (list_any (is_work_due b) (work_of b p)) in
    let due : is_due b (Close p) ≡ not (list_any (is_choice b []) (work_of b p)) =
    true_and (is_close_due b p) (working_so b p lives going) ∙ ap (λ z. undue && not z) unclosed ∙ and-true undue
    ∙ ap not (any_alike (is_work_due b) (is_choice b []) (work_of b p) (λ j. sym (and-true (is_work_due b j)))) in
    ap is_some (choice_parts b flight p)
    ∙ some_merged R (least R (open_in b flight (work_of b p))) (least R (open_in b flight (Close p ∷ [])))
    ∙ ap₂ (λ x y. x || y)
    (ap (λ js. is_some (least R js)) (open_works b flight p lives going) ∙ some_least R (is_choice b flight) (work_of b p))
    (some_least R (λ j. is_due b j && is_free flight j) (Close p ∷ []) ∙ or-false (is_due b (Close p) && is_free flight (Close p)) ∙ ap (λ z. z && is_free flight (Close p)) due)

-- ---- what any process would take

-- the process doesn't sleep, and would take some job
abbrev pub gets_job : Plain → List Job → Name → Bool
gets_job b flight p = not (has b.asleep p) && is_some (first_choice b flight p)

some_free : (b : Plain) (flight : List Job) (ps : List Name) → is_some (least_free b flight ps) ≡ list_any (λ p. is_some (first_choice b flight p)) ps
some_free b flight [] = refl
some_free b flight (p ∷ ps) =
    let R = job_cmp (cost b) (weight b) in
    ap is_some (least_step b flight p ps) ∙ some_merged R (first_choice b flight p) (least_free b flight ps) ∙ ap (λ z. is_some (first_choice b flight p) || z) (some_free b flight ps)

-- there is a first job just where some process gets one
pub some_first : (b : Plain) (ts : List Ticket) → is_some (first_job (record b { flight = ts })) ≡ list_any (gets_job b (jobs_of ts)) b.living
some_first b ts =
    ap is_some (first_as b ts) ∙ some_free b (jobs_of ts) (awake b) ∙ any_filter (λ p. is_some (first_choice b (jobs_of ts) p)) (λ p. not (has b.asleep p)) b.living
