-- One call more at the end of a list.
use Rattle.std.proofs.Common.{◌≡◌, ℕ, ◌+◌, ◌<◌, List, [], ◌∷◌, ◌++◌, length, get_or, take, sym, refl, ap, ◌∙◌, subst, arith, length-take}
use Rattle.std.proofs.lemmas.List.{take_more}
use Rattle.kinds.specs.View as kind
use Rattle.kinds.specs.declared.kind.Kind as kinds
use Rattle.model.specs.Workload.{Workload}
use Rattle.model.specs.Table as model
use Rattle.model.specs.Journal.{Event, Reached, next}
use Rattle.stores.specs.declared.store.ShowingStore as showing
use Rattle.table.specs.declared.answer.Call.{Call}
use Rattle.table.specs.declared.answer.Answer.{Answer}
use Rattle.table.specs.declared.definition.Table.{Table}
use Rattle.table.specs.Answers.{LeadsOn, Moved, answer_view, call_view, logged}
use Rattle.table.specs.View.{graph, view}

logged_more
    : (cs : List Call) (ys : List Answer) (c : Call) (a : Answer) (past : List Event) → length cs ≡ length ys
    → logged (cs ++ c ∷ []) (ys ++ a ∷ []) past ≡ record { call = call_view c; answer = answer_view a } ∷ logged cs ys past
logged_more [] [] c a past e = refl
logged_more [] (y ∷ ys) c a past e = absurd (omega arith)
logged_more (x ∷ cs) [] c a past e = absurd (omega arith)
logged_more (x ∷ cs) (y ∷ ys) c a past e = logged_more cs ys c a (record { call = call_view x; answer = answer_view y } ∷ past) (omega arith)

-- the same for a loop over a slice of calls
pub leads_next
    : {K' S V : Type 0} (k : kinds.Ghosts K' V) (s : showing.Ghosts S K' V) (m n o : Table K' S V) (cs : List Call) (i : ℕ) (d : Call) (ys zs : List Answer) (a : Answer)
    → i < length cs → length ys ≡ i → graph n ≡ graph m → LeadsOn k s m (take i cs) ys n → zs ≡ ys ++ a ∷ []
    → Moved k s n (call_view (get_or cs i d)) (answer_view a) o → LeadsOn k s m (take (i + 1) cs) zs o
leads_next k s m n o cs i d ys zs a lt len e r ze mv first past h =
    let c = get_or cs i d in
    let step : model.Moves (graph m) (kind.view k) (view s n) (call_view c) (answer_view a) (view s o) =
    subst (λ (W : Workload). model.Moves W (kind.view k) (view s n) (call_view c) (answer_view a) (view s o)) e mv in
    let same : length (take i cs) ≡ length ys = simp length-take (omega arith) in
    let more : logged (take (i + 1) cs) zs past ≡ record { call = call_view c; answer = answer_view a } ∷ logged (take i cs) ys past =
    ap (λ (l : List Call). logged l zs past) (take_more cs i d lt) ∙ ap (λ (l : List Answer). logged (take i cs ++ c ∷ []) l past) ze ∙ logged_more (take i cs) ys c a past same in
    subst (λ (es : List Event). Reached (graph m) (kind.view k) first es (view s o)) (sym more)
    (next (logged (take i cs) ys past) (view s n) (view s o) (call_view c) (answer_view a) (r first past h) step)
