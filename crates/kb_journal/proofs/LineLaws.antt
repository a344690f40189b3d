-- What is written of a line is read as the line.
use Rattle.std.proofs.Common.{ℕ, suc, ◌+◌, ◌-◌, ◌^◌, ◌≡◌, ◌≤◌, ◌<◌, ◌==◌, refl, sym, ap, ◌∙◌, subst, arith, append_assoc, List, [], ◌∷◌, ◌++◌, map, length, length-append, get_or, take, Option, Some, None, Bool, true, false, ◌&&◌}
use Rattle.std.specs.Prelude.{codes, decimal, MatchOption, nat_le, nat_lt, unwrap_or, if◌then◌else◌, ◌||◌}
use Rattle.std.specs.List.{slice_split}
use Rattle.std.specs.Str.Parse.{AllDigits, digits_value}
use Rattle.std.specs.Cmp.Lexicographic.{same_text, other_text}
use Rattle.std.proofs.lemmas.Bool.Decides.{nat_tests}
use Rattle.std.proofs.lemmas.Fmt.{decimal_digit, decimal_is_IsNumeral}
use Rattle.std.proofs.lemmas.Str.Parse.{digit_from_value}
use Rattle.std.proofs.lemmas.Bool.{lt-ltb, ltb-true, le-ltb}
use Rattle.kb_lemmas.proofs.Numbers.{eq_above}
use Rattle.kb_term.specs.declared.origin.RuleRef.{RuleRef}
use Rattle.kb_label.specs.Names.{Name}
use Rattle.kb_label.specs.declared.verdict.Reason.{Reason}
use Rattle.kb_label.specs.declared.verdict.Reason.TheVariants.{Nodes, Processes, Size, Depth, Variables, Steps}
use Rattle.kb_text.specs.Fields.{IsWithout}
use Rattle.kb_text.proofs.Cuts.{AreWithout, without-append, are_without-append, fields_cut}
use Rattle.kb_text.proofs.PlainTexts.{IsBlank, space_blank, feed_blank, word_without, decimal_without, join_without}
use Rattle.kb_report.specs.Reports.{reason_word}
use Rattle.kb_report.specs.Summaries.{bit_digit, process_text}
use Rattle.kb_journal.specs.declared.entry_line.EntryLine.{EntryLine}
use Rattle.kb_journal.specs.declared.entry_line.EntryLine.TheVariants.{TakeReduce, TakeOrient, TakeOverlap, TakeClose, Facts, Rewrite, Oriented, Fork, Refused, Deduced, Unjoined, Closed, Over, Drop, Abandon, Halt}
use Rattle.kb_journal.specs.EntryLines.{commit_fields, entry_fields, rule_text, take_fields, target_text, IsEntryLine, IsProcess, IsRule, IsTarget, IsTicketNumber, IsWorker}
use Rattle.kb_journal.specs.JournalSections.{entry_body, IsEntryText}
use Rattle.kb_journal.specs.LineReading.{at_most, is_text, line_read, number_read, process_read, rule_read}

-- ---- no field holds a blank

bits_without : (c : ℕ) → IsBlank c → (p : Name) → IsWithout c (map bit_digit p)
bits_without c k [] = tt
bits_without c k (true ∷ p) = (eq_above 49 c (let low = k.low in omega arith), bits_without c k p)
bits_without c k (false ∷ p) = (eq_above 48 c (let low = k.low in omega arith), bits_without c k p)

process_without : (c : ℕ) → IsBlank c → (p : Name) → IsWithout c (process_text p)
process_without c k [] = word_without c k.low (codes "e") refl
process_without c k (b ∷ p) = bits_without c k (b ∷ p)

number_without : (c : ℕ) → IsBlank c → (n : ℕ) → n < 2 ^ 64 → IsWithout c (decimal n)
number_without c k n h = let low = k.low in decimal_without c n (omega arith) h

rule_without : (c : ℕ) → IsBlank c → (a : RuleRef) → IsRule a → IsWithout c (rule_text a)
rule_without c k a h =
    let node = h.0 in
    let dir = h.1 in
    without-append c (decimal a.node ++ codes ".") (decimal a.dir) (without-append c (decimal a.node) (codes ".") (number_without c k a.node (omega arith)) (word_without c k.low (codes ".") refl)) (number_without c k a.dir (omega arith))

target_without : (c : ℕ) → IsBlank c → (o : Option ℕ) → IsTarget o → IsWithout c (target_text o)
target_without c k None h = word_without c k.low (codes "trivial") refl
target_without c k (Some n) h = number_without c k n (omega arith)

reason_without : (c : ℕ) → IsBlank c → (r : Reason) → IsWithout c (reason_word r)
reason_without c k Nodes = word_without c k.low (codes "nodes") refl
reason_without c k Processes = word_without c k.low (codes "processes") refl
reason_without c k Size = word_without c k.low (codes "size") refl
reason_without c k Depth = word_without c k.low (codes "depth") refl
reason_without c k Variables = word_without c k.low (codes "variables") refl
reason_without c k Steps = word_without c k.low (codes "steps") refl

take_without : (c : ℕ) → IsBlank c → (w t : ℕ) (kind : List ℕ) (p : Name) → IsWorker w → IsTicketNumber t → IsWithout c kind → AreWithout c (take_fields w t kind p)
take_without c k w t kind p worker ticket is =
    let few = worker.1 in
    (word_without c k.low (codes "take") refl, (number_without c k w (omega arith), (number_without c k t ticket.1, (is, (process_without c k p, tt)))))

commit_without : (c : ℕ) → IsBlank c → (t : ℕ) (kind : List ℕ) → IsTicketNumber t → IsWithout c kind → AreWithout c (commit_fields t kind)
commit_without c k t kind ticket is = (word_without c k.low (codes "commit") refl, (number_without c k t ticket.1, (is, tt)))

counting_without : (c : ℕ) → IsBlank c → (t : ℕ) (kind last : List ℕ) → IsTicketNumber t → IsWithout c kind → IsWithout c last → AreWithout c (commit_fields t kind ++ last ∷ [])
counting_without c k t kind last ticket is i = are_without-append c (commit_fields t kind) (last ∷ []) (commit_without c k t kind ticket is) (i, tt)

pub fields_without : (c : ℕ) → IsBlank c → (l : EntryLine) → IsEntryLine l → AreWithout c (entry_fields l)
fields_without c k (TakeReduce w t p n) h = are_without-append c (take_fields w t (codes "reduce") p) (decimal n ∷ []) (take_without c k w t (codes "reduce") p h.0 h.1 (word_without c k.low (codes "reduce") refl)) (number_without c k n (let node = h.3 in omega arith), tt)
fields_without c k (TakeOrient w t p n) h = are_without-append c (take_fields w t (codes "orient") p) (decimal n ∷ []) (take_without c k w t (codes "orient") p h.0 h.1 (word_without c k.low (codes "orient") refl)) (number_without c k n (let node = h.3 in omega arith), tt)
fields_without c k (TakeOverlap w t p a b) h =
    are_without-append c (take_fields w t (codes "overlap") p) (rule_text a ∷ rule_text b ∷ []) (take_without c k w t (codes "overlap") p h.0 h.1 (word_without c k.low (codes "overlap") refl)) (rule_without c k a h.3, (rule_without c k b h.4, tt))
fields_without c k (TakeClose w t p) h = take_without c k w t (codes "close") p h.0 h.1 (word_without c k.low (codes "close") refl)
fields_without c k (Facts t n) h = counting_without c k t (codes "facts") (decimal n) h.0 (word_without c k.low (codes "facts") refl) (number_without c k n h.1)
fields_without c k (Rewrite t n) h = counting_without c k t (codes "rewrite") (target_text n) h.0 (word_without c k.low (codes "rewrite") refl) (target_without c k n h.1)
fields_without c k (Oriented t d) h = counting_without c k t (codes "oriented") (decimal d) h.0 (word_without c k.low (codes "oriented") refl) (number_without c k d (let dir = h.1 in omega arith))
fields_without c k (Fork t) h = commit_without c k t (codes "fork") h (word_without c k.low (codes "fork") refl)
fields_without c k (Refused t) h = commit_without c k t (codes "refused") h (word_without c k.low (codes "refused") refl)
fields_without c k (Deduced t n) h = counting_without c k t (codes "deduced") (decimal n) h.0 (word_without c k.low (codes "deduced") refl) (number_without c k n h.1)
fields_without c k (Unjoined t n) h = counting_without c k t (codes "unjoined") (decimal n) h.0 (word_without c k.low (codes "unjoined") refl) (number_without c k n h.1)
fields_without c k (Closed t) h = commit_without c k t (codes "closed") h (word_without c k.low (codes "closed") refl)
fields_without c k (Over t r) h = counting_without c k t (codes "over") (reason_word r) h (word_without c k.low (codes "over") refl) (reason_without c k r)
fields_without c k (Drop t p) h = (word_without c k.low (codes "drop") refl, (number_without c k t h.0.1, (process_without c k p, tt)))
fields_without c k (Abandon t) h = (word_without c k.low (codes "abandon") refl, (number_without c k t h.1, tt))
fields_without c k Halt h = (word_without c k.low (codes "halt") refl, tt)

pub entry_without : (l : EntryLine) → IsEntryLine l → IsWithout 10 (entry_body l)
entry_without l h = join_without 10 32 (entry_fields l) (eq_above 32 10 (omega arith)) (fields_without 10 feed_blank l h)

-- the fields are those that the line is cut into
pub entry_cut : (l : EntryLine) → IsEntryLine l → slice_split (λ b. b == 32) (entry_body l) ≡ entry_fields l
entry_cut (TakeReduce w t p n) h = fields_cut 32 _ _ (fields_without 32 space_blank (TakeReduce w t p n) h)
entry_cut (TakeOrient w t p n) h = fields_cut 32 _ _ (fields_without 32 space_blank (TakeOrient w t p n) h)
entry_cut (TakeOverlap w t p a b) h = fields_cut 32 _ _ (fields_without 32 space_blank (TakeOverlap w t p a b) h)
entry_cut (TakeClose w t p) h = fields_cut 32 _ _ (fields_without 32 space_blank (TakeClose w t p) h)
entry_cut (Facts t k) h = fields_cut 32 _ _ (fields_without 32 space_blank (Facts t k) h)
entry_cut (Rewrite t n) h = fields_cut 32 _ _ (fields_without 32 space_blank (Rewrite t n) h)
entry_cut (Oriented t d) h = fields_cut 32 _ _ (fields_without 32 space_blank (Oriented t d) h)
entry_cut (Fork t) h = fields_cut 32 _ _ (fields_without 32 space_blank (Fork t) h)
entry_cut (Refused t) h = fields_cut 32 _ _ (fields_without 32 space_blank (Refused t) h)
entry_cut (Deduced t k) h = fields_cut 32 _ _ (fields_without 32 space_blank (Deduced t k) h)
entry_cut (Unjoined t k) h = fields_cut 32 _ _ (fields_without 32 space_blank (Unjoined t k) h)
entry_cut (Closed t) h = fields_cut 32 _ _ (fields_without 32 space_blank (Closed t) h)
entry_cut (Over t r) h = fields_cut 32 _ _ (fields_without 32 space_blank (Over t r) h)
entry_cut (Drop t p) h = fields_cut 32 _ _ (fields_without 32 space_blank (Drop t p) h)
entry_cut (Abandon t) h = fields_cut 32 _ _ (fields_without 32 space_blank (Abandon t) h)
entry_cut Halt h = fields_cut 32 _ _ (fields_without 32 space_blank Halt h)

-- ---- what is written of a number, a process or a rule is read as it

is_text-refl : (text : List ℕ) → is_text text text ≡ true
is_text-refl text = go (is_text text text) refl
  where
    go : (b : Bool) → is_text text text ≡ b → b ≡ true
    go true e = refl
    go false e = absurd (other_text text text (sym e) refl)

pub number_read-decimal : (n : ℕ) → n < 2 ^ 64 → number_read (decimal n) ≡ Some n
number_read-decimal n h =
    let value : digits_value 10 (decimal n) ≡ n = (decimal_is_IsNumeral n h).1 in
    ap (λ v. if nat_lt v (2 ^ 64) && is_text (decimal v) (decimal n) then Some v else None) value
    ∙ ap (λ b. if b && is_text (decimal n) (decimal n) then Some n else None) (lt-ltb n (2 ^ 64) h)
    ∙ ap (λ b. if b then Some n else None) (is_text-refl (decimal n))

-- what is read exactly
pub read_exactly : (digits : List ℕ) (o : Option ℕ) → MatchOption o ((n : ℕ) → n < 2 ^ 64 → ¬ (decimal n ≡ digits)) (λ n. (n < 2 ^ 64) × (decimal n ≡ digits)) → o ≡ number_read digits
read_exactly digits (Some n) h = sym (ap number_read (sym h.1) ∙ number_read-decimal n h.0)
read_exactly digits None h = sym (go (nat_lt v (2 ^ 64)) refl (is_text (decimal v) digits) refl)
  where
    v : ℕ
    v = digits_value 10 digits

    go : (a : Bool) → nat_lt v (2 ^ 64) ≡ a → (b : Bool) → is_text (decimal v) digits ≡ b → (if a && b then Some v else None) ≡ None
    go false p b q = refl
    go true p false q = refl
    go true p true q = absurd (h v (ltb-true v (2 ^ 64) p) (same_text (decimal v) digits (sym q)))

number_is : (n : ℕ) → n < 2 ^ 64 → unwrap_or (number_read (decimal n)) 0 ≡ n
number_is n h = ap (λ o. unwrap_or o 0) (number_read-decimal n h)

most_is : (highest n : ℕ) → n ≤ highest → at_most highest n ≡ n
most_is highest n h = ap (λ b. if b then n else 0) (le_true n highest h)
  where
    le_true : (m k : ℕ) → m ≤ k → nat_le m k ≡ true
    le_true m k i = grind (arith, nat_tests)

small_is : (highest n : ℕ) → highest < 2 ^ 64 → n ≤ highest → at_most highest (unwrap_or (number_read (decimal n)) 0) ≡ n
small_is highest n s h = ap (at_most highest) (number_is n (omega arith)) ∙ most_is highest n h

bits_read : (p : Name) → map (λ b. b == 49) (map bit_digit p) ≡ p
bits_read [] = refl
bits_read (true ∷ p) = ap (λ q. true ∷ q) (bits_read p)
bits_read (false ∷ p) = ap (λ q. false ∷ q) (bits_read p)

bits_length : (p : Name) → length (map bit_digit p) ≡ length p
bits_length [] = refl
bits_length (b ∷ p) = ap suc (bits_length p)

no_word : (b : Bool) (text : List ℕ) → is_text (bit_digit b ∷ text) (codes "e") ≡ false
no_word true text = refl
no_word false text = refl

pub process_is : (p : Name) → IsProcess p → process_read (process_text p) ≡ p
process_is [] h = refl
process_is (b ∷ p) h =
    let text : List ℕ = map bit_digit (b ∷ p) in
    ap (λ v. if v || nat_lt 1023 (length text) then [] else map (λ c. c == 49) text) (no_word b (map bit_digit p))
    ∙ ap (λ v. if v then [] else map (λ c. c == 49) text) (le-ltb 1023 (length text) (omega (arith, bits_length (b ∷ p))))
    ∙ bits_read (b ∷ p)

front_of : (xs : List ℕ) (y z : ℕ) → take (length (xs ++ y ∷ z ∷ []) - 2) (xs ++ y ∷ z ∷ []) ≡ xs
front_of xs y z = let n : length (xs ++ y ∷ z ∷ []) - 2 ≡ length xs = omega (arith, length-append xs (y ∷ z ∷ [])) in ap (λ k. take k (xs ++ y ∷ z ∷ [])) n ∙ go xs
  where
    go : (xs : List ℕ) → take (length xs) (xs ++ y ∷ z ∷ []) ≡ xs
    go [] = refl
    go (x ∷ xs) = ap (λ l. x ∷ l) (go xs)

last_of : (xs : List ℕ) (y z d : ℕ) → get_or (xs ++ y ∷ z ∷ []) (length (xs ++ y ∷ z ∷ []) - 1) d ≡ z
last_of xs y z d = let n : length (xs ++ y ∷ z ∷ []) - 1 ≡ suc (length xs) = omega (arith, length-append xs (y ∷ z ∷ [])) in ap (λ k. get_or (xs ++ y ∷ z ∷ []) k d) n ∙ go xs
  where
    go : (xs : List ℕ) → get_or (xs ++ y ∷ z ∷ []) (suc (length xs)) d ≡ z
    go [] = refl
    go (x ∷ xs) = go xs

pub rule_is : (a : RuleRef) → IsRule a → rule_read (rule_text a) ≡ a
rule_is a h =
    let node = h.0 in
    let dir = h.1 in
    let parts : rule_text a ≡ decimal a.node ++ 46 ∷ (48 + a.dir) ∷ [] = ap (λ (t : List ℕ). decimal a.node ++ codes "." ++ t) (decimal_digit a.dir (omega arith)) ∙ append_assoc (decimal a.node) (46 ∷ []) ((48 + a.dir) ∷ []) in
    let front : at_most 65535 (unwrap_or (number_read (take (length (rule_text a) - 2) (rule_text a))) 0) ≡ a.node =
    ap (λ t. at_most 65535 (unwrap_or (number_read t) 0)) (ap (λ (t : List ℕ). take (length t - 2) t) parts ∙ front_of (decimal a.node) 46 (48 + a.dir)) ∙ small_is 65535 a.node (omega arith) (omega arith) in
    let last : get_or (rule_text a) (length (rule_text a) - 1) 48 ≡ 48 + a.dir = ap (λ (t : List ℕ). get_or t (length t - 1) 48) parts ∙ last_of (decimal a.node) 46 (48 + a.dir) 48 in
    let back : get_or (rule_text a) (length (rule_text a) - 1) 48 - 48 ≡ a.dir = omega arith in
    λ i. record { node = front i; dir = back i }

digit_text : (n : ℕ) → n < 2 ^ 64 → is_text (decimal n) (codes "trivial") ≡ false
digit_text n h = go (is_text (decimal n) (codes "trivial")) refl
  where
    go : (b : Bool) → is_text (decimal n) (codes "trivial") ≡ b → b ≡ false
    go false e = refl
    go true e = absurd (omega (arith, digit_from_value 116 (subst (AllDigits 10) (same_text (decimal n) (codes "trivial") (sym e)) (decimal_is_IsNumeral n h).0.1).0))

-- ---- what is written of a line is read as the line

pub line_is : (l : EntryLine) → IsEntryLine l → line_read (entry_fields l) ≡ l
line_is (TakeReduce w t p n) h =
    let ws = small_is 255 w (omega arith) (let most = h.0.1 in omega arith) in
    let ts = number_is t h.1.1 in
    let ps = process_is p h.2 in
    let ns = small_is 65535 n (omega arith) (let node = h.3 in omega arith) in
    λ i. TakeReduce (ws i) (ts i) (ps i) (ns i)
line_is (TakeOrient w t p n) h =
    let ws = small_is 255 w (omega arith) (let most = h.0.1 in omega arith) in
    let ts = number_is t h.1.1 in
    let ps = process_is p h.2 in
    let ns = small_is 65535 n (omega arith) (let node = h.3 in omega arith) in
    λ i. TakeOrient (ws i) (ts i) (ps i) (ns i)
line_is (TakeOverlap w t p a b) h =
    let ws = small_is 255 w (omega arith) (let most = h.0.1 in omega arith) in
    let ts = number_is t h.1.1 in
    let ps = process_is p h.2 in
    let as' = rule_is a h.3 in
    let bs = rule_is b h.4 in
    λ i. TakeOverlap (ws i) (ts i) (ps i) (as' i) (bs i)
line_is (TakeClose w t p) h =
    let ws = small_is 255 w (omega arith) (let most = h.0.1 in omega arith) in
    let ts = number_is t h.1.1 in
    let ps = process_is p h.2 in
    λ i. TakeClose (ws i) (ts i) (ps i)
line_is (Facts t k) h = let ts = number_is t h.0.1 in let ks = number_is k h.1 in λ i. Facts (ts i) (ks i)
line_is (Rewrite t None) h = let ts = number_is t h.0.1 in λ i. Rewrite (ts i) None
line_is (Rewrite t (Some n)) h =
    let ts = number_is t h.0.1 in
    let ns = small_is 65535 n (omega arith) (let node = h.1 in omega arith) in
    (λ i. Rewrite (ts i) (if digit_text n (let node = h.1 in omega arith) i then None else Some (ns i)))
line_is (Oriented t d) h = let ts = number_is t h.0.1 in let ds = small_is 255 d (omega arith) (let dir = h.1 in omega arith) in λ i. Oriented (ts i) (ds i)
line_is (Fork t) h = let ts = number_is t h.1 in λ i. Fork (ts i)
line_is (Refused t) h = let ts = number_is t h.1 in λ i. Refused (ts i)
line_is (Deduced t k) h = let ts = number_is t h.0.1 in let ks = number_is k h.1 in λ i. Deduced (ts i) (ks i)
line_is (Unjoined t k) h = let ts = number_is t h.0.1 in let ks = number_is k h.1 in λ i. Unjoined (ts i) (ks i)
line_is (Closed t) h = let ts = number_is t h.1 in λ i. Closed (ts i)
line_is (Over t Nodes) h = let ts = number_is t h.1 in λ i. Over (ts i) Nodes
line_is (Over t Processes) h = let ts = number_is t h.1 in λ i. Over (ts i) Processes
line_is (Over t Size) h = let ts = number_is t h.1 in λ i. Over (ts i) Size
line_is (Over t Depth) h = let ts = number_is t h.1 in λ i. Over (ts i) Depth
line_is (Over t Variables) h = let ts = number_is t h.1 in λ i. Over (ts i) Variables
line_is (Over t Steps) h = let ts = number_is t h.1 in λ i. Over (ts i) Steps
line_is (Drop t p) h = let ts = number_is t h.0.1 in let ps = process_is p h.1 in λ i. Drop (ts i) (ps i)
line_is (Abandon t) h = let ts = number_is t h.1 in λ i. Abandon (ts i)
line_is Halt h = refl

-- a line is that of one entry
pub one_entry : (l m : EntryLine) → IsEntryLine l → IsEntryLine m → entry_body l ≡ entry_body m → l ≡ m
one_entry l m h k e =
    let fields : entry_fields l ≡ entry_fields m = sym (entry_cut l h) ∙ ap (slice_split (λ b. b == 32)) e ∙ entry_cut m k in
    sym (line_is l h) ∙ ap line_read fields ∙ line_is m k

-- what is read of the line of an entry is the entry
pub read_back : (line : List ℕ) (fields : List (List ℕ)) (entry l : EntryLine) → fields ≡ slice_split (λ b. b == 32) line → entry ≡ line_read fields → IsEntryText line l → entry ≡ l
read_back line fields entry l cut read k = read ∙ ap line_read (cut ∙ ap (slice_split (λ b. b == 32)) k.spelling ∙ entry_cut l k.form) ∙ line_is l k.form
