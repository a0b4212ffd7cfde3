mod Laws
mod Reading
