use Rattle.std.proofs.Common.{refl}
use Rattle.gcm_seal.specs.Gcm.{product, v_at, z_at}
use Rattle.gcm_seal.proofs.ProductLaws.{product-left, product-right, product-shift, product-times, product_one}
use Rattle.gcm_seal.proofs.product.product_laws.Goals as goal

pub returns-clause-left : goal.returns-clause-left
returns-clause-left c = λ a b y. product-left y a b

pub returns-clause-right : goal.returns-clause-right
returns-clause-right c = λ x a b. product-right x a b

pub returns-clause-powers : goal.returns-clause-powers
returns-clause-powers c = product-times

pub returns-clause-shift : goal.returns-clause-shift
returns-clause-shift c = product-shift

pub returns-clause-one : goal.returns-clause-one
returns-clause-one c = product_one

pub returns-clause-example : goal.returns-clause-example
unfolding product z_at v_at
returns-clause-example c = refl
