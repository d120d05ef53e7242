pub mod NumberLemmas
pub mod CountLemmas
pub mod ValueLemmas
pub mod MaskLemmas
