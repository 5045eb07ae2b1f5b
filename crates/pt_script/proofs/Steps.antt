-- The table of what may come next, its counts apart.
use Rattle.std.proofs.Common.{◌≡◌, ℕ, ◌+◌, ◌≤◌, ◌<◌, Bool, true, false, List, [], ◌∷◌, ◌++◌, Option, Some, None, nat_le, nat_lt, refl, ap, ◌∙◌, arith, cond}
use Rattle.std.specs.Prelude.{option_and_then, IsSome, IsNone, count_by, ◌&&◌}
use Rattle.std.proofs.lemmas.Bool.Decides.{nat_tests}
use Rattle.std.proofs.lemmas.List.Sums.{sum_by-append}
use Rattle.pt_script.specs.declared.line.Line.{Line}
use Rattle.pt_script.specs.Lines.{keyword_of, is_command, is_dump}
use Rattle.pt_script.specs.Grammar.{Place, State, may_stand, behind, fits, counted, moved, is_within, next, after}

pub never : false ≡ true → ⊥
never e = cc

pub not_some : {A : Type 0} {x : A} → None ≡ Some x → ⊥
not_some e = cc

pub same_some : {A : Type 0} (x y : A) → Some x ≡ Some y → x ≡ y
same_some x y e = cc

pub both : (a b : Bool) → (a && b) ≡ true → (a ≡ true) × (b ≡ true)
both true b e = (refl, e)
both false b e = absurd (never e)

pub and_true : (a b : Bool) → a ≡ true → b ≡ true → (a && b) ≡ true
and_true true b e f = f
and_true false b e f = absurd (never e)

pub at_most : (a b : ℕ) → nat_le a b ≡ true → a ≤ b
at_most a b e = grind (arith, nat_tests)

pub is_at_most : (a b : ℕ) → a ≤ b → nat_le a b ≡ true
is_at_most a b h = grind (arith, nat_tests)

pub less : (a b : ℕ) → nat_lt a b ≡ true → a < b
less a b e = grind (arith, nat_tests)

pub is_less : (a b : ℕ) → a < b → nat_lt a b ≡ true
is_less a b h = grind (arith, nat_tests)

pub is_not_less : (a b : ℕ) → b ≤ a → nat_lt a b ≡ false
is_not_less a b h = grind (arith, nat_tests)

pub counted_is : (b : Bool) (n : ℕ) → counted b n ≡ n + cond b 1 0
counted_is true n = refl
counted_is false n = omega arith

-- a test that leads on
pub tested : {A B : Type 0} (b : Bool) (x : A) (f : A → Option B) (y : B) → option_and_then f (cond b (Some x) None) ≡ Some y → (b ≡ true) × (f x ≡ Some y)
tested true x f y e = (refl, e)
tested false x f y e = absurd (not_some e)

pub passed : {A B : Type 0} (b : Bool) (x : A) (f : A → Option B) → b ≡ true → option_and_then f (cond b (Some x) None) ≡ f x
passed true x f e = refl
passed false x f e = absurd (never e)

pub some_of : {A : Type 0} (o : Option A) → IsSome o → (q : A) × (o ≡ Some q)
some_of None h = absurd (never h)
some_of (Some q) h = (q, refl)

pub none_of : {A : Type 0} (o : Option A) → IsNone o → o ≡ None
none_of None h = refl
none_of (Some q) h = cc

-- the table of places
abbrev pub step : Line → Place → Option Place
step l p = cond (may_stand (keyword_of l) p && fits l p) (Some (behind l p)) None

abbrev pub through : Place → List Line → Option Place
through p [] = Some p
through p (l ∷ ls) = option_and_then (λ q. through q ls) (step l p)

-- what a line that is taken meets
pub record Taken (l : Line) (s : State) : Type 0 where
  pub stands : may_stand (keyword_of l) s.place ≡ true
  pub fitting : fits l s.place ≡ true
  pub commands : counted (is_command l) s.commands ≤ 65536
  pub dumps : counted (is_dump l) s.dumps ≤ 256

pub taken_by : (l : Line) (s : State) → (may_stand (keyword_of l) s.place && is_within l s) ≡ true → Taken l s
taken_by l s e =
    let a = both (may_stand (keyword_of l) s.place) (is_within l s) e in
    let b = both (fits l s.place && nat_le (counted (is_command l) s.commands) 65536) (nat_le (counted (is_dump l) s.dumps) 256) a.1 in
    let c = both (fits l s.place) (nat_le (counted (is_command l) s.commands) 65536) b.0 in
    record { stands = a.0; fitting = c.0; commands = at_most _ _ c.1; dumps = at_most _ _ b.1 }

pub within_by : (l : Line) (s : State) → Taken l s → is_within l s ≡ true
within_by l s t = and_true _ _ (and_true _ _ t.fitting (is_at_most _ _ t.commands)) (is_at_most _ _ t.dumps)

pub takes : (l : Line) (s : State) → Taken l s → next l s ≡ Some (moved l s)
takes l s t = ap (λ b. cond b (Some (moved l s)) None) (and_true _ _ t.stands (within_by l s t))

pub steps : (l : Line) (p : Place) → may_stand (keyword_of l) p ≡ true → fits l p ≡ true → step l p ≡ Some (behind l p)
steps l p e f = ap (λ b. cond b (Some (behind l p)) None) (and_true _ _ e f)

-- where lines lead, by the places alone
pub record Leads (s t : State) (ls : List Line) : Type 0 where
  pub places : through s.place ls ≡ Some t.place
  pub commands : t.commands ≡ s.commands + count_by is_command ls
  pub dumps : t.dumps ≡ s.dumps + count_by is_dump ls
  pub few_commands : s.commands ≤ 65536 → t.commands ≤ 65536
  pub few_dumps : s.dumps ≤ 256 → t.dumps ≤ 256

leads_same : (s t : State) → s ≡ t → Leads s t []
leads_same s t e = record {
  places = ap (λ x. Some x.place) e;
  commands = omega (arith, ap (λ x. x.commands) e);
  dumps = omega (arith, ap (λ x. x.dumps) e);
  few_commands = λ h. omega (arith, ap (λ x. x.commands) e);
  few_dumps = λ h. omega (arith, ap (λ x. x.dumps) e);
}

pub count_by-append : (p : Line → Bool) (xs ys : List Line) → count_by p (xs ++ ys) ≡ count_by p xs + count_by p ys
count_by-append p xs ys = sum_by-append (λ x. cond (p x) 1 0) xs ys

count_cons : (p : Line → Bool) (l : Line) (ls : List Line) → count_by p (l ∷ ls) ≡ cond (p l) 1 0 + count_by p ls
count_cons p l ls = omega (arith, count_by-append p (l ∷ []) ls)

more_counted : (p : Line → Bool) (l : Line) (ls : List Line) (before behind : ℕ) → behind ≡ counted (p l) before + count_by p ls → behind ≡ before + count_by p (l ∷ ls)
more_counted p l ls before behind e = omega (arith, e, counted_is (p l) before, count_cons p l ls)

leads_on : (l : Line) (ls : List Line) (s t : State) → Taken l s → Leads (moved l s) t ls → Leads s t (l ∷ ls)
leads_on l ls s t k m = record {
  places = ap (option_and_then (λ q. through q ls)) (steps l s.place k.stands k.fitting) ∙ m.places;
  commands = more_counted is_command l ls s.commands t.commands m.commands;
  dumps = more_counted is_dump l ls s.dumps t.dumps m.dumps;
  few_commands = λ h. m.few_commands k.commands;
  few_dumps = λ h. m.few_dumps k.dumps;
}

pub leads : (ls : List Line) (s t : State) → after s ls ≡ Some t → Leads s t ls
leads [] s t e = leads_same s t (same_some s t e)
leads (l ∷ ls) s t e =
    let h = tested (may_stand (keyword_of l) s.place && is_within l s) (moved l s) (λ q. after q ls) t e in
    leads_on l ls s t (taken_by l s h.0) (leads ls (moved l s) t h.1)

abbrev pub with_counts : Place → State → List Line → State
with_counts p s ls = record { place = p; commands = s.commands + count_by is_command ls; dumps = s.dumps + count_by is_dump ls }

abbrev some_state : Place → ℕ → ℕ → Option State
some_state p c d = Some (record { place = p; commands = c; dumps = d })

same_counts : (p : Place) (a b c d : ℕ) → a ≡ b → c ≡ d → some_state p a c ≡ some_state p b d
same_counts p a b c d e f = λ i. some_state p (e i) (f i)

pub led : (ls : List Line) (s : State) (p : Place) → through s.place ls ≡ Some p → s.commands + count_by is_command ls ≤ 65536 → s.dumps + count_by is_dump ls ≤ 256
    → after s ls ≡ Some (with_counts p s ls)
led [] s p e c d = ap (λ q. some_state q s.commands s.dumps) (same_some s.place p e) ∙ same_counts p s.commands (s.commands + 0) s.dumps (s.dumps + 0) (omega arith) (omega arith)
led (l ∷ ls) s p e c d =
    let h = tested (may_stand (keyword_of l) s.place && fits l s.place) (behind l s.place) (λ q. through q ls) p e in
    let b = both (may_stand (keyword_of l) s.place) (fits l s.place) h.0 in
    let commands : counted (is_command l) s.commands + count_by is_command ls ≡ s.commands + count_by is_command (l ∷ ls) = more_counted is_command l ls s.commands _ refl in
    let dumps : counted (is_dump l) s.dumps + count_by is_dump ls ≡ s.dumps + count_by is_dump (l ∷ ls) = more_counted is_dump l ls s.dumps _ refl in
    let k : Taken l s = record { stands = b.0; fitting = b.1; commands = omega arith; dumps = omega arith } in
    ap (option_and_then (λ t. after t ls)) (takes l s k)
    ∙ led ls (moved l s) p h.1 (omega arith) (omega arith)
    ∙ same_counts p _ _ _ _ commands dumps

append_step : {A : Type 0} (o : Option A) (f g : A → Option A) (h : A → Option A) → ((q : A) → f q ≡ option_and_then h (g q))
    → option_and_then f o ≡ option_and_then h (option_and_then g o)
append_step None f g h k = refl
append_step (Some q) f g h k = k q

pub after-append : (xs ys : List Line) (s : State) → after s (xs ++ ys) ≡ option_and_then (λ q. after q ys) (after s xs)
after-append [] ys s = refl
after-append (x ∷ xs) ys s = append_step (next x s) (λ q. after q (xs ++ ys)) (λ q. after q xs) (λ q. after q ys) (λ q. after-append xs ys q)

pub through-append : (xs ys : List Line) (p : Place) → through p (xs ++ ys) ≡ option_and_then (λ q. through q ys) (through p xs)
through-append [] ys p = refl
through-append (x ∷ xs) ys p = append_step (step x p) (λ q. through q (xs ++ ys)) (λ q. through q xs) (λ q. through q ys) (λ q. through-append xs ys q)
