-- A run from its calls.
use Rattle.std.proofs.Common.{◌≡◌, ℕ, Bool, true, false, List, Ok, Err, Result, sym, refl, ap, ◌∙◌, subst, arith}
use Rattle.fault.specs.declared.Fault.{Fault}
use Rattle.fault.specs.declared.Fault.TheVariants.{TablesUnfit}
use Rattle.graphmap.specs.Capacity.{capacity_answer}
use Rattle.map_model.specs.Model.{Model, built, run, answers}
use Rattle.map_model.specs.Shown.{all_edges_shown}
use Rattle.map_model.specs.Statements.{granted_edits, ShowsWhatWasGrantedLast}
use Rattle.map_model.proofs.Listing.{all_edges_show}
use Rattle.greedy_order.proofs.Promised.{the_order_keeps_the_promises}
use Rattle.feedback_arc_set.specs.declared.ordering.Ordering.{Ordering}
use Rattle.feedback_arc_set.specs.Verdicts.{Leaves, answer, verdict}
use Rattle.replay.specs.declared.step.Step.{Step}
use Rattle.replay.specs.Steps.{edits_of, recorded}
use Rattle.replay.specs.Runs.{network_of, AllPromises, Ran}

pub fit_true : (b : Bool) → ◌≡◌ {A = Result (Unit {0}) Fault} (Ok tt) (capacity_answer b) → b ≡ true
fit_true true e = refl
fit_true false e = absurd (let z : ◌≡◌ {A = ℕ} 0 1 = cc in omega arith)

pub fit_false : (b : Bool) (f : Fault) → ◌≡◌ {A = Result (Unit {0}) Fault} (Err f) (capacity_answer b) → (b ≡ false) × (f ≡ TablesUnfit)
fit_false true f e = absurd (let z : ◌≡◌ {A = ℕ} 0 1 = cc in omega arith)
fit_false false f e = (refl, cc)

pub all_promises : {N E : Type 0} → AllPromises N E
all_promises = record { all_edges_show_what_was_granted_last = all_edges_show; the_order_keeps_the_promises = the_order_keeps_the_promises }

pub ran : {N E : Type 0} (ix : N → ℕ) → ((x y : N) → ix x ≡ ix y → x ≡ y) → (n k : ℕ) (before after : List (Step N E)) (m m' mo : Model N E) (o o' : Ordering) (r : Result ℕ Fault)
    → m ≡ built n k → m' ≡ run ix m (edits_of before) → after ≡ recorded (edits_of before) (answers ix m (edits_of before)) → mo ≡ m'
    → r ≡ answer (verdict (network_of ix mo) o.tables) (network_of ix mo) → Leaves (verdict (network_of ix mo) o.tables) (network_of ix mo) o o'
    → Ran ix n k before after m' o o' r
ran ix inj n k before after m m' mo o o' r e shown steps eo ans lv =
    let es = edits_of before in
    let is : m' ≡ run ix (built n k) es = shown ∙ ap (λ v. run ix v es) e in
    record {
      map = is;
      steps = steps ∙ ap (λ v. recorded es (answers ix v es)) e;
      shows = subst (λ v. ShowsWhatWasGrantedLast (all_edges_shown v) (granted_edits es (answers ix (built n k) es))) (sym is) (all_edges_show ix inj n k es);
      answer_is = ans ∙ ap (λ v. answer (verdict (network_of ix v) o.tables) (network_of ix v)) eo;
      leaves = subst (λ v. Leaves (verdict (network_of ix v) o.tables) (network_of ix v) o o') eo lv;
      keeps = the_order_keeps_the_promises (network_of ix m');
    }
