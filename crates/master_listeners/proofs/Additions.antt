-- An addition to a set of addresses that is not refused.
use Rattle.std.proofs.Common.{Result, Ok, Err, refl}
use Rattle.std.specs.Prelude.{OnOk, IsErrOf}
use Rattle.listener_set.specs.declared.listeners.ListenerRefusal.{ListenerRefusal}
use Rattle.listener_set.specs.declared.listeners.ListenerRefusal.TheVariants.{Doubled, TooMany}

pub is_added : (r : Result (Unit {0}) ListenerRefusal) (P : Type 0) → OnOk r P → (IsErrOf r Doubled → ⊥) → (IsErrOf r TooMany → ⊥) → P
is_added (Ok u) P h d t = h
is_added (Err Doubled) P h d t = absurd (d refl)
is_added (Err TooMany) P h d t = absurd (t refl)
