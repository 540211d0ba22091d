pub mod WrappingKey
