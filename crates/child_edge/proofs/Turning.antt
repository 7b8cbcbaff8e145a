-- Turns that go on.
use Rattle.std.proofs.Common.{◌≡◌, refl, sym, ap, ◌∙◌, ℕ, ◌+◌, ◌<◌, ◌≤◌, Bool, true, false, List, [], ◌∷◌, ◌++◌, length}
use Rattle.std.proofs.Common.{map, get_or, set, take, drop, Option, subst, arith, if◌then◌else◌, codes}
use Rattle.std.proofs.lemmas.List.{take_more, take_more_set, take_all, drop_all, drop-set-lt, take-append-drop}
use Rattle.std.specs.List.{remove}
use Rattle.child_family.specs.Told.{Told, Tells, Hearing, said, heard, stopped_child, awaited_child}
use Rattle.child_family.specs.Talk.{says, hears, stops_child, awaits_child}
use Rattle.child_family.proofs.Talking.{held-says, held-hears, held-stops_child, held-awaits_child}
use Rattle.child_workers.specs.declared.worker.Worker.{Worker}
use Rattle.child_workers.specs.declared.who.Who.{Who}
use Rattle.child_workers.specs.declared.who.Who.TheVariants.{IsReady}
use Rattle.child_workers.specs.Workers.{means}
use Rattle.vocabulary.specs.declared.table.Listener.{Listener}
use Rattle.child_edge.specs.Table.{Turn, greeted}
use Rattle.child_edge.specs.Turns.{GoesOn, Begins}
use Rattle.child_edge.specs.Each.{says_each, says_lines, stops_each, counts_each, awaits_each, beats_each, beaten, with_beat}
use Rattle.child_family.specs.Lines.{is_line, is_going, beat_of, worker_line, listener_line}
use Rattle.child_workers.proofs.Places.{at_place, from_place, up_to_place, take-removed, drop-removed}

---- Calls and turns

pub goes-says : (old new : Option (List Told)) (id : ℕ) (text : List ℕ) (follows : Bool → Turn) (ok : Bool) →
    Tells old new (said id text ok) → GoesOn old new (says id text follows) (follows ok)
goes-says old new id text follows ok t = λ last a h. held-says ok t h

pub goes-hears : (old new : Option (List Told)) (id : ℕ) (follows : Hearing → Turn) (h : Hearing) →
    Tells old new (heard id h) → GoesOn old new (hears id follows) (follows h)
goes-hears old new id follows r t = λ last a h. held-hears r t h

pub goes-stops_child : (old new : Option (List Told)) (id : ℕ) (follows : Turn) → Tells old new (stopped_child id) → GoesOn old new (stops_child id follows) follows
goes-stops_child old new id follows t = λ last a h. held-stops_child t h

pub goes-awaits_child : (old new : Option (List Told)) (id : ℕ) (follows : Bool → Turn) (ok : Bool) →
    Tells old new (awaited_child id ok) → GoesOn old new (awaits_child id follows) (follows ok)
goes-awaits_child old new id follows ok t = λ last a h. held-awaits_child ok t h

pub goes-both : (old mid new : Option (List Told)) (a b c : Turn) → GoesOn old mid a b → GoesOn mid new b c → GoesOn old new a c
goes-both old mid new a b c f g = λ last x h. f last x (g last x h)

pub goes-from : (old new : Option (List Told)) (a b c : Turn) → a ≡ b → GoesOn old new b c → GoesOn old new a c
goes-from old new a b c is f = let F : Turn → Type 0 = λ t. GoesOn old new t c in subst F (sym is) f

pub goes-into : (old new : Option (List Told)) (a b c : Turn) → b ≡ c → GoesOn old new a b → GoesOn old new a c
goes-into old new a b c is f = let F : Turn → Type 0 = λ t. GoesOn old new a t in subst F is f

---- A line to each

pub says-meant : (who : Who) (text : List ℕ) (w : Worker) (all rest : List Worker) (next : Turn) → all ≡ w ∷ rest →
    means who w ≡ true → says_each who text all next ≡ says w.id text (λ ok. says_each who text rest next)
says-meant who text w all rest next is meant = rw (is, meant) refl

pub says-other : (who : Who) (text : List ℕ) (w : Worker) (all rest : List Worker) (next : Turn) → all ≡ w ∷ rest →
    means who w ≡ false → says_each who text all next ≡ says_each who text rest next
says-other who text w all rest next is other = rw (is, other) refl

-- at a place: a worker that is meant, and any other
pub says-turn : (who : Who) (text : List ℕ) (ws : List Worker) (i : ℕ) (d : Worker) (old new : Option (List Told))
    (ok : Bool) → i < length ws → means who (get_or ws i d) ≡ true → Tells old new (said (get_or ws i d).id text ok) →
    (next : Turn) → GoesOn old new (says_each who text (drop i ws) next) (says_each who text (drop (i + 1) ws) next)
says-turn who text ws i d old new ok within meant t next =
    goes-from old new _ _ _ (says-meant who text (get_or ws i d) (drop i ws) (drop (i + 1) ws) next (at_place ws i d within) meant) (goes-says old new (get_or ws i d).id text (λ k. says_each who text (drop (i + 1) ws) next) ok t)

pub says-pass : (who : Who) (text : List ℕ) (ws : List Worker) (i : ℕ) (d : Worker) (now : Option (List Told)) →
    i < length ws → means who (get_or ws i d) ≡ false → (next : Turn) →
    GoesOn now now (says_each who text (drop i ws) next) (says_each who text (drop (i + 1) ws) next)
says-pass who text ws i d now within other next =
    goes-from now now _ _ _ (says-other who text (get_or ws i d) (drop i ws) (drop (i + 1) ws) next (at_place ws i d within) other) (λ last a h. h)

---- Each is stopped

pub stops_child-turn : (who : Who) (ws : List Worker) (i : ℕ) (d : Worker)
    (old new : Option (List Told)) → i < length ws →
    means who (get_or ws i d) ≡ true → Tells old new (stopped_child (get_or ws i d).id) → (next : Turn) →
    GoesOn old new (stops_each who (drop i ws) next) (stops_each who (drop (i + 1) ws) next)
stops_child-turn who ws i d old new within meant t next =
    let w = get_or ws i d in
    let is : stops_each who (drop i ws) next ≡ stops_child w.id (stops_each who (drop (i + 1) ws) next) = rw (at_place ws i d within, meant) refl in
    goes-from old new _ _ _ is (goes-stops_child old new w.id (stops_each who (drop (i + 1) ws) next) t)

pub stops_child-pass : (who : Who) (ws : List Worker) (i : ℕ) (d : Worker) (now : Option (List Told)) → i < length ws →
    means who (get_or ws i d) ≡ false → (next : Turn) →
    GoesOn now now (stops_each who (drop i ws) next) (stops_each who (drop (i + 1) ws) next)
stops_child-pass who ws i d now within other next =
    let is : stops_each who (drop i ws) next ≡ stops_each who (drop (i + 1) ws) next = rw (at_place ws i d within, other) refl in
    goes-from now now _ _ _ is (λ last a h. h)

---- Each is counted

-- the place of a worker among those that are heard
counts-here : (who : Who) (ws : List Worker) (i : ℕ) (w : Worker) (b : Bool) (next : List Worker → Turn) → i < length ws → w ≡ get_or ws i w → means who w ≡ b
    → counts_each who (take i ws) (drop i ws) next
    ≡ (if b then hears w.id (λ h. if is_line (codes "pong") h
    then counts_each who (take i ws ++ w ∷ []) (drop (i + 1) ws) next
    else stops_child w.id (counts_each who (take i ws) (drop (i + 1) ws) next))
    else counts_each who (take i ws ++ w ∷ []) (drop (i + 1) ws) next)
counts-here who ws i w b next within is meant = rw (from_place ws i w within is, meant) refl

pub counts-pass : (who : Who) (ws : List Worker) (i : ℕ) (w : Worker) (old new : Option (List Told)) (whole : Turn)
    (next : List Worker → Turn) → i < length ws → w ≡ get_or ws i w → means who w ≡ false →
    GoesOn old new whole (counts_each who (take i ws) (drop i ws) next) →
    GoesOn old new whole (counts_each who (take (i + 1) ws) (drop (i + 1) ws) next)
counts-pass who ws i w old new whole next within is other goes =
    goes-into old new _ _ _ (counts-here who ws i w false next within is other ∙ ap (λ l. counts_each who l (drop (i + 1) ws) next) (sym (up_to_place ws i w within is))) goes

pub counts-heard : (who : Who) (ws : List Worker) (i : ℕ) (w : Worker) (there : Bool) (old mid new : Option (List Told))
    (whole : Turn) (next : List Worker → Turn) → i < length ws → w ≡ get_or ws i w → means who w ≡ true →
    GoesOn old mid whole (counts_each who (take i ws) (drop i ws) next)
    → ((yes no : Turn) → GoesOn mid new (hears w.id (λ h. if is_line (codes "pong") h then yes else stops_child w.id no)) (if there then yes else no))
    → GoesOn old new whole (if there then counts_each who (take i ws ++ w ∷ []) (drop (i + 1) ws) next else counts_each who (take i ws) (drop (i + 1) ws) next)
counts-heard who ws i w there old mid new whole next within is meant goes asked =
    goes-both old mid new _ _ _ (goes-into old mid _ _ _ (counts-here who ws i w true next within is meant) goes) (asked (counts_each who (take i ws ++ w ∷ []) (drop (i + 1) ws) next) (counts_each who (take i ws) (drop (i + 1) ws) next))

pub counts-stay : (who : Who) (ws : List Worker) (i : ℕ) (w : Worker) (there : Bool) (old mid new : Option (List Told))
    (whole : Turn) (next : List Worker → Turn) → i < length ws → w ≡ get_or ws i w → means who w ≡ true → there ≡ true →
    GoesOn old mid whole (counts_each who (take i ws) (drop i ws) next)
    → ((yes no : Turn) → GoesOn mid new (hears w.id (λ h. if is_line (codes "pong") h then yes else stops_child w.id no)) (if there then yes else no))
    → GoesOn old new whole (counts_each who (take (i + 1) ws) (drop (i + 1) ws) next)
counts-stay who ws i w there old mid new whole next within is meant stays goes asked =
    let on = counts-heard who ws i w there old mid new whole next within is meant goes asked in
    goes-into old new whole _ _ (ap (λ b. if b then counts_each who (take i ws ++ w ∷ []) (drop (i + 1) ws) next else counts_each who (take i ws) (drop (i + 1) ws) next) stays ∙ ap (λ l. counts_each who l (drop (i + 1) ws) next) (sym (up_to_place ws i w within is))) on

pub counts-out : (who : Who) (ws : List Worker) (i : ℕ) (w : Worker) (there : Bool) (old mid new : Option (List Told))
    (whole : Turn) (next : List Worker → Turn) → i < length ws → w ≡ get_or ws i w → means who w ≡ true →
    there ≡ false → GoesOn old mid whole (counts_each who (take i ws) (drop i ws) next)
    → ((yes no : Turn) → GoesOn mid new (hears w.id (λ h. if is_line (codes "pong") h then yes else stops_child w.id no)) (if there then yes else no))
    → GoesOn old new whole (counts_each who (take i (remove ws i)) (drop i (remove ws i)) next)
counts-out who ws i w there old mid new whole next within is meant goes-away goes asked =
    let on = counts-heard who ws i w there old mid new whole next within is meant goes asked in
    goes-into old new whole _ _ (ap (λ b. if b then counts_each who (take i ws ++ w ∷ []) (drop (i + 1) ws) next else counts_each who (take i ws) (drop (i + 1) ws) next) goes-away ∙ (ap (λ l. counts_each who l (drop (i + 1) ws) next) (sym (take-removed ws i within)) ∙ ap (λ l. counts_each who (take i (remove ws i)) l next) (sym (drop-removed ws i within)))) on

pub counts-end : (who : Who) (ws : List Worker) (i : ℕ) (old new : Option (List Told)) (whole : Turn)
    (next : List Worker → Turn) → length ws ≤ i → GoesOn old new whole (counts_each who (take i ws) (drop i ws) next) →
    GoesOn old new whole (next ws)
counts-end who ws i old new whole next past goes =
    goes-into old new whole _ _ (ap (λ l. counts_each who (take i ws) l next) (drop_all i ws past) ∙ ap next (take_all i ws past)) goes

---- Each is waited for

awaits_child-here : (who : Who) (ws : List Worker) (i : ℕ) (w : Worker) (b : Bool) (next : List Worker → Bool → Turn) →
    i < length ws → w ≡ get_or ws i w → means who w ≡ b
    → awaits_each who (take i ws) (drop i ws) next
    ≡ (if b then hears w.id (λ h. if is_going h
    then awaits_child w.id (λ ok. awaits_each who (take i ws) (drop (i + 1) ws) next)
    else next (take i ws ++ w ∷ drop (i + 1) ws) true)
    else awaits_each who (take i ws ++ w ∷ []) (drop (i + 1) ws) next)
awaits_child-here who ws i w b next within is meant = rw (from_place ws i w within is, meant) refl

pub awaits_child-pass : (who : Who) (ws : List Worker) (i : ℕ) (w : Worker)
    (old new : Option (List Told)) (whole : Turn)
    (next : List Worker → Bool → Turn) → i < length ws → w ≡ get_or ws i w → means who w ≡ false →
    GoesOn old new whole (awaits_each who (take i ws) (drop i ws) next) →
    GoesOn old new whole (awaits_each who (take (i + 1) ws) (drop (i + 1) ws) next)
awaits_child-pass who ws i w old new whole next within is other goes =
    goes-into old new _ _ _ (awaits_child-here who ws i w false next within is other ∙ ap (λ l. awaits_each who l (drop (i + 1) ws) next) (sym (up_to_place ws i w within is))) goes

awaits_child-heard : (who : Who) (ws : List Worker) (i : ℕ) (w : Worker) (gone : Bool)
    (old mid new : Option (List Told))
    (whole : Turn) (next : List Worker → Bool → Turn) → i < length ws → w ≡ get_or ws i w → means who w ≡ true →
    GoesOn old mid whole (awaits_each who (take i ws) (drop i ws) next)
    → ((yes no : Turn) → GoesOn mid new (hears w.id (λ h. if is_going h then awaits_child w.id (λ ok. yes) else no)) (if gone then yes else no))
    → GoesOn old new whole (if gone then awaits_each who (take i ws) (drop (i + 1) ws) next else next (take i ws ++ w ∷ drop (i + 1) ws) true)
awaits_child-heard who ws i w gone old mid new whole next within is meant goes asked =
    goes-both old mid new _ _ _ (goes-into old mid _ _ _ (awaits_child-here who ws i w true next within is meant) goes) (asked (awaits_each who (take i ws) (drop (i + 1) ws) next) (next (take i ws ++ w ∷ drop (i + 1) ws) true))

pub awaits_child-out : (who : Who) (ws : List Worker) (i : ℕ) (w : Worker) (gone : Bool)
    (old mid new : Option (List Told))
    (whole : Turn) (next : List Worker → Bool → Turn) → i < length ws → w ≡ get_or ws i w → means who w ≡ true →
    gone ≡ true → GoesOn old mid whole (awaits_each who (take i ws) (drop i ws) next)
    → ((yes no : Turn) → GoesOn mid new (hears w.id (λ h. if is_going h then awaits_child w.id (λ ok. yes) else no)) (if gone then yes else no))
    → GoesOn old new whole (awaits_each who (take i (remove ws i)) (drop i (remove ws i)) next)
awaits_child-out who ws i w gone old mid new whole next within is meant left goes asked =
    let on = awaits_child-heard who ws i w gone old mid new whole next within is meant goes asked in
    goes-into old new whole _ _ (ap (λ b. if b then awaits_each who (take i ws) (drop (i + 1) ws) next else next (take i ws ++ w ∷ drop (i + 1) ws) true) left ∙ (ap (λ l. awaits_each who l (drop (i + 1) ws) next) (sym (take-removed ws i within)) ∙ ap (λ l. awaits_each who (take i (remove ws i)) l next) (sym (drop-removed ws i within)))) on

pub awaits_child-late : (who : Who) (ws : List Worker) (i : ℕ) (w : Worker) (gone : Bool)
    (old mid new : Option (List Told))
    (whole : Turn) (next : List Worker → Bool → Turn) → i < length ws → w ≡ get_or ws i w → means who w ≡ true →
    gone ≡ false → GoesOn old mid whole (awaits_each who (take i ws) (drop i ws) next)
    → ((yes no : Turn) → GoesOn mid new (hears w.id (λ h. if is_going h then awaits_child w.id (λ ok. yes) else no)) (if gone then yes else no))
    → GoesOn old new whole (next ws true)
awaits_child-late who ws i w gone old mid new whole next within is meant late goes asked =
    let on = awaits_child-heard who ws i w gone old mid new whole next within is meant goes asked in
    let same : take i ws ++ w ∷ drop (i + 1) ws ≡ ws = ap (λ l. take i ws ++ l) (sym (from_place ws i w within is)) ∙ take-append-drop i ws in
    goes-into old new whole _ _ (ap (λ b. if b then awaits_each who (take i ws) (drop (i + 1) ws) next else next (take i ws ++ w ∷ drop (i + 1) ws) true) late ∙ ap (λ l. next l true) same) on

pub awaits_child-end : (who : Who) (ws : List Worker) (i : ℕ) (old new : Option (List Told)) (whole : Turn)
    (next : List Worker → Bool → Turn) → length ws ≤ i →
    GoesOn old new whole (awaits_each who (take i ws) (drop i ws) next) → GoesOn old new whole (next ws false)
awaits_child-end who ws i old new whole next past goes =
    goes-into old new whole _ _ (ap (λ l. awaits_each who (take i ws) l next) (drop_all i ws past) ∙ ap (λ l. next l false) (take_all i ws past)) goes

---- Each beats

beats-here : (now : ℕ) (ws : List Worker) (i : ℕ) (d : Worker) (numbers : List ℕ) (b : Bool)
    (next : List Worker → List ℕ → Turn) → i < length ws → means IsReady (get_or ws i d) ≡ b
    → beats_each now (take i ws) numbers (drop i ws) next
    ≡ (if b then hears (get_or ws i d).id
    (λ h. beats_each now (take i ws ++ beaten (beat_of now h) (get_or ws i d) ∷ [])
    (with_beat (beat_of now h) (get_or ws i d) numbers) (drop (i + 1) ws) next)
    else beats_each now (take i ws ++ get_or ws i d ∷ []) numbers (drop (i + 1) ws) next)
beats-here now ws i d numbers b next within ready = rw (at_place ws i d within, ready) refl

pub beats-pass : (now : ℕ) (ws : List Worker) (i : ℕ) (d : Worker) (numbers : List ℕ) (old new : Option (List Told))
    (whole : Turn) (next : List Worker → List ℕ → Turn) → i < length ws → means IsReady (get_or ws i d) ≡ false →
    GoesOn old new whole (beats_each now (take i ws) numbers (drop i ws) next) →
    GoesOn old new whole (beats_each now (take (i + 1) ws) numbers (drop (i + 1) ws) next)
beats-pass now ws i d numbers old new whole next within other goes =
    goes-into old new _ _ _ (beats-here now ws i d numbers false next within other ∙ ap (λ l. beats_each now l numbers (drop (i + 1) ws) next) (sym (take_more ws i d within))) goes

pub beats-turn : (now : ℕ) (ws : List Worker) (i : ℕ) (d : Worker) (numbers : List ℕ) (beat : Option ℕ) (w : Worker)
    (more : List ℕ) (old mid new : Option (List Told)) (whole : Turn) (next : List Worker → List ℕ → Turn) →
    i < length ws → means IsReady (get_or ws i d) ≡ true
    → GoesOn old mid whole (beats_each now (take i ws) numbers (drop i ws) next)
    → (h : Hearing) × Tells mid new (heard (get_or ws i d).id h) × (beat ≡ beat_of now h) →
    w ≡ beaten beat (get_or ws i d) → more ≡ with_beat beat (get_or ws i d) numbers
    → GoesOn old new whole (beats_each now (take (i + 1) (set ws i w)) more (drop (i + 1) (set ws i w)) next)
beats-turn now ws i d numbers beat w more old mid new whole next within ready goes told is_w is_more =
    let old_w = get_or ws i d in
    let follows = λ (h : Hearing). beats_each now (take i ws ++ beaten (beat_of now h) old_w ∷ []) (with_beat (beat_of now h) old_w numbers) (drop (i + 1) ws) next in
    let on = goes-both old mid new _ _ _ (goes-into old mid _ _ _ (beats-here now ws i d numbers true next within ready) goes) (goes-hears mid new old_w.id follows told.0 told.1) in
    let worker : beaten (beat_of now told.0) old_w ≡ w = ap (λ b. beaten b old_w) (sym told.2) ∙ sym is_w in
    let counted : with_beat (beat_of now told.0) old_w numbers ≡ more = ap (λ b. with_beat b old_w numbers) (sym told.2) ∙ sym is_more in
    let front : take i ws ++ w ∷ [] ≡ take (i + 1) (set ws i w) = sym (take_more_set ws i w within) in
    let back : drop (i + 1) ws ≡ drop (i + 1) (set ws i w) = sym (drop-set-lt (i + 1) ws i w (omega arith)) in
    goes-into old new whole _ _ (ap (λ x. beats_each now (take i ws ++ x ∷ []) (with_beat (beat_of now told.0) old_w numbers) (drop (i + 1) ws) next) worker
    ∙ (ap (λ ns. beats_each now (take i ws ++ w ∷ []) ns (drop (i + 1) ws) next) counted
    ∙ (ap (λ l. beats_each now l more (drop (i + 1) ws) next) front
    ∙ ap (λ l. beats_each now (take (i + 1) (set ws i w)) more l next) back))) on

pub beats-end : (now : ℕ) (ws : List Worker) (i : ℕ) (numbers : List ℕ) (old new : Option (List Told)) (whole : Turn)
    (next : List Worker → List ℕ → Turn) → length ws ≤ i →
    GoesOn old new whole (beats_each now (take i ws) numbers (drop i ws) next) → GoesOn old new whole (next ws numbers)
beats-end now ws i numbers old new whole next past goes =
    goes-into old new whole _ _ (ap (λ l. beats_each now (take i ws) numbers l next) (drop_all i ws past) ∙ ap (λ l. next l numbers) (take_all i ws past)) goes

---- A worker that is greeted

pub greeted-goes : (w : Worker) (listeners : List Listener) (a b c d : Option (List Told)) (first second : Bool)
    (text : List ℕ) (ls : List Listener) → text ≡ worker_line w.generation w.nr w.start → ls ≡ listeners
    → Tells a b (said w.id text first) →
    Begins b c (says_lines w.id (map (λ (l : Listener). listener_line l.address) ls)) →
    Tells c d (said w.id (codes "go") second) → Begins a d (greeted w listeners)
greeted-goes w listeners a b c d first second text ls said_is list_is told lists goes = λ rest.
    let last_line : Turn = says w.id (codes "go") (λ ok. rest) in
    let lines = λ (xs : List Listener). says_lines w.id (map (λ (l : Listener). listener_line l.address) xs) last_line in
    let one = goes-says a b w.id text (λ ok. lines ls) first told in
    let two = goes-both a b c _ _ _ one (lists last_line) in
    let three = goes-both a c d _ _ _ two (goes-says c d w.id (codes "go") (λ ok. rest) second goes) in
    goes-from a d _ _ _ (ap (λ t. says w.id t (λ ok. lines listeners)) (sym said_is) ∙ ap (λ xs. says w.id text (λ ok. lines xs)) (sym list_is)) three
