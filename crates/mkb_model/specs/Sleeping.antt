-- Which processes are worked on, and which sleep until a place is free.
use Rattle.std.specs.Prelude.{ℕ, ◌-◌, List, [], ◌∷◌, length, Bool, true, false, ◌&&◌, not, filter}
use Rattle.std.specs.Fn.{iterate}
use Rattle.std.specs.Option.{option_map_or}
use Rattle.std.specs.Ordering.{ordering_then, nat_cmp}
use Rattle.std.specs.declared.cmp.Ordering.{Ordering}
use Rattle.kb_label.specs.Names.{Name, name_cmp, add, minus}
use Rattle.mkb_model.specs.Jobs.{least, greatest}
use Rattle.mkb_model.specs.Plain.{Plain, equations_of, is_over, cost}
use Rattle.mkb_model.specs.DueJobs.{due_jobs_of}

-- as many processes as may be active and awake
abbrev pub most_awake : ℕ
most_awake = 64

-- ---- active processes

-- the list is empty
abbrev pub no_members : {A : Type 0} → List A → Bool
no_members [] = true
no_members (x ∷ xs) = false

-- the process has not given up, has an equation, and nothing is due for it
abbrev pub is_failed : Plain → Name → Bool
is_failed b p = not (is_over b p) && (not (no_members (equations_of b p)) && no_members (due_jobs_of b p))

-- the process may still come to an answer: it has not failed and has not given up
abbrev pub is_active : Plain → Name → Bool
is_active b p = not (is_failed b p) && not (is_over b p)

-- the order in which processes wait: by cost, then name
abbrev pub process_cmp : Plain → Name → Name → Ordering
process_cmp b p q = ordering_then (nat_cmp (cost b p) (cost b q)) (name_cmp p q)

-- the active processes that are awake where these are asleep
abbrev pub working : Plain → List Name → List Name
working b l = filter (is_active b) (minus b.living l)

-- the active processes among these that are asleep
abbrev pub waiting : Plain → List Name → List Name
waiting b l = filter (is_active b) l

-- ---- who sleeps

-- the greatest of the working ones falls asleep, if there is one
abbrev pub with_one_asleep : Plain → List Name → List Name
with_one_asleep b l = option_map_or (λ p. add p l) (greatest (process_cmp b) (working b l)) l

-- the least of the waiting ones wakes, if there is one
abbrev pub with_one_awake : Plain → List Name → List Name
with_one_awake b l = option_map_or (λ p. minus l (p ∷ [])) (least (process_cmp b) (waiting b l)) l

-- who sleeps where the greatest of the working ones fell asleep, until at most 64 work
abbrev pub rested : Plain → List Name
rested b = iterate (with_one_asleep b) (length (working b b.asleep) - most_awake) b.asleep

-- who sleeps where then the least of the waiting ones woke, while fewer than 64 work
abbrev pub settled : Plain → List Name
settled b = iterate (with_one_awake b) (most_awake - length (working b (rested b))) (rested b)

-- processes fall asleep where more than 64 work, and wake where fewer do
abbrev pub settle : Plain → Plain
settle b = record b { asleep = settled b }
