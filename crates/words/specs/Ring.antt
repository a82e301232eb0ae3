-- The operations of a commutative ring, and its laws. A formula of document 01 that holds for numbers and for bits is
-- written once, over `Ops`; what it opens is proved once, over `Ring`. Assumes nothing.
use Rattle.std.specs.Prelude.{◌≡◌}

pub record Ops (A : Type 0) : Type 0 where
  pub add : A → A → A
  pub sub : A → A → A
  pub mul : A → A → A
  pub neg : A → A
  pub nil : A
  pub one : A

pub record Ring {A : Type 0} (O : Ops A) : Type 0 where
  pub add_assoc : (a b c : A) → O.add (O.add a b) c ≡ O.add a (O.add b c)
  pub add_comm : (a b : A) → O.add a b ≡ O.add b a
  pub add_nil : (a : A) → O.add a O.nil ≡ a
  pub add_neg : (a : A) → O.add a (O.neg a) ≡ O.nil
  pub sub_is : (a b : A) → O.sub a b ≡ O.add a (O.neg b)
  pub mul_assoc : (a b c : A) → O.mul (O.mul a b) c ≡ O.mul a (O.mul b c)
  pub mul_comm : (a b : A) → O.mul a b ≡ O.mul b a
  pub mul-one : (a : A) → O.mul a O.one ≡ a
  pub mul-add : (a b c : A) → O.mul a (O.add b c) ≡ O.add (O.mul a b) (O.mul a c)
